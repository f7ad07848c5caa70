use Rattle.std.proofs.Common.{◌≡◌, ℕ, List, length, sym, ap, ◌∙◌}
use Rattle.verdict.specs.Verdict.{number_of}
use Rattle.verdict.specs.First.{◌or_else◌}
use Rattle.verdict.proofs.Accepted.{refuses}
use Rattle.verdict.proofs.First.{handed_on, or_assoc, seq_next, seq_stop}
use Rattle.contents.specs.File.{day_of}
use Rattle.dayfile.specs.Check.{check_of}
use Rattle.recording.specs.declared.Record.{Record}
use Rattle.record_check.specs.Left.{record_rule, admit_rule}
use Rattle.settlement.specs.Settlement.{accepted_rule, days_by}
use Rattle.settlement.proofs.Accepted.{refused}
use Rattle.recorded.specs.Recorded.{record_days, settle_recorded}
use Rattle.recorded.proofs.settle_recorded.Goals as goal

opened : (r : Record) (file : List ℕ) (room : ℕ)
    → settle_recorded r file room ≡ (admit_rule r file or_else accepted_rule (days_by (record_days r (day_of file)) file) file room)
unfolding settle_recorded admit_rule
opened r file room = sym (or_assoc (check_of file) (record_rule r (day_of file)) _)

pub returns-in_err-plain-clause-value : goal.returns-in_err-plain-clause-value
returns-in_err-plain-clause-value c =
    let s = c.args in
    handed_on _ _ _ c.from_residual.ensures.1
    (seq_stop _ _ _ _ (opened s.given s.file.now (length s.statement.now)) (sym c.in_err-plain.ensures.answer_value))

pub returns-in_err-plain-clause-statement_after : goal.returns-in_err-plain-clause-statement_after
returns-in_err-plain-clause-statement_after c =
    let f = c.args.file.now in
    refused (days_by (record_days c.args.given (day_of f)) f) f _ c.args.statement.now (refuses _ c.from_residual.ensures.0)

pub settle_after-requires : goal.settle_after-requires
settle_after-requires c =
    let admitted = c.in_ok-plain.ensures in
    (ap number_of (sym admitted.answer_value), admitted.plain_told)

pub returns-clause-value : goal.returns-clause-value
returns-clause-value c =
    let s = c.args in
    c.settle_after.ensures.value
    ∙ sym (seq_next _ _ _ _ (opened s.given s.file.now (length s.statement.now)) (sym c.in_ok-plain.ensures.answer_value))

use Rattle.std.proofs.Common.{sym, ap, ◌∙◌}
use Rattle.verdict.specs.Verdict.{number_of}
use Rattle.verdict.proofs.First.{handed_on, seq_next, seq_stop}
use Rattle.settlement.proofs.Accepted.{opened, own_settleable, no_list, rule_same}
use Rattle.settlement.proofs.answer.Goals as goal

pub returns-in_err-plain : goal.returns-in_err-plain
returns-in_err-plain c =
    handed_on _ _ _ c.from_residual.ensures.1
    (seq_stop _ _ _ _ (opened c.args.file.now c.args.room) (sym c.in_err-plain.ensures.answer_value))

pub answer_accepted-requires : goal.answer_accepted-requires
answer_accepted-requires c =
    let told = c.in_ok-plain.ensures in
    (own_settleable _ (ap number_of (sym told.answer_value)), told.plain_told)

pub returns : goal.returns
returns c =
    let f = c.args.file.now in
    c.answer_accepted.ensures
    ∙ rule_same _ _ f (λ k h. no_list f k) c.args.room
    ∙ sym (seq_next _ _ _ _ (opened f c.args.room) (sym c.in_ok-plain.ensures.answer_value))

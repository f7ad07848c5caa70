use Rattle.std.proofs.Common.{sym, ap, ◌∙◌, arith}
use Rattle.verdict.specs.Verdict.{number_of}
use Rattle.verdict.specs.declared.Refusal.TheVariants.{TooManyAreas}
use Rattle.verdict.proofs.Accepted.{no_refusal_is_zero, refuses}
use Rattle.verdict.proofs.First.{handed_on, seq_stop, seq_next}
use Rattle.dayfile.proofs.Facts.{within_limits, file_head}
use Rattle.recording.proofs.AllMarked.{aged_sound}
use Rattle.record_check.proofs.Left.{admitted, record_before}
use Rattle.settlement.proofs.Accepted.{sound_file}
use Rattle.entering.proofs.Entry.{aged_on, too_many, taken, opened, refused_so, whole_entry}
use Rattle.entering.proofs.enter.Goals as goal

pub returns-in_err-admit-clause-value : goal.returns-in_err-admit-clause-value
returns-in_err-admit-clause-value c =
    handed_on _ _ _ c.from_residual.ensures.1 (seq_stop _ _ _ _ (opened _ _) (sym c.in_err-admit.ensures.answer_value))

pub returns-in_err-admit-clause-record_after : goal.returns-in_err-admit-clause-record_after
returns-in_err-admit-clause-record_after c = refused_so _ _ _ (refuses _ c.from_residual.ensures.0)

pub returns-in_err-admit-clause-both : goal.returns-in_err-admit-clause-both
returns-in_err-admit-clause-both c =
    whole_entry _ _ (returns-in_err-admit-clause-value c) (returns-in_err-admit-clause-record_after c)

pub word-date-requires : goal.word-date-requires
word-date-requires c =
    let entry = admitted _ _ (ap number_of (sym c.in_ok-admit.ensures.answer_value)) in
    omega (arith, (sound_file _ entry.checked).room)

pub word-n-requires : goal.word-n-requires
word-n-requires c =
    let entry = admitted _ _ (ap number_of (sym c.in_ok-admit.ensures.answer_value)) in
    omega (arith, (sound_file _ entry.checked).room)

pub gap-requires : goal.gap-requires
gap-requires c =
    let entry = admitted _ _ (ap number_of (sym c.in_ok-admit.ensures.answer_value)) in
    rw c.word-date.ensures ((file_head _ _ (within_limits _ entry.checked)).real, entry.judged)

pub age_all-aged-requires : goal.age_all-aged-requires
age_all-aged-requires c =
    let entry = admitted _ _ (ap number_of (sym c.in_ok-admit.ensures.answer_value)) in
    (record_before _ _ entry.judged).left.few

pub mark_areas-requires : goal.mark_areas-requires
mark_areas-requires c =
    let entry = admitted _ _ (ap number_of (sym c.in_ok-admit.ensures.answer_value)) in
    let r = c.args.given.now in
    let aged = aged_on r c.args.file.now _ _ _ c.age_all-aged.ensures c.gap.ensures c.word-date.ensures in
    (aged_sound _ _ r c.age_all-aged.result (record_before _ _ entry.judged).left.few aged, sound_file _ entry.checked, c.word-n.ensures)

pub returns-in_default-clause-value : goal.returns-in_default-clause-value
returns-in_default-clause-value c =
    let r = c.args.given.now in
    let f = c.args.file.now in
    let aged = aged_on r f _ _ _ c.age_all-aged.ensures c.gap.ensures c.word-date.ensures in
    sym (seq_next _ _ _ _ (opened r f) (sym c.in_ok-admit.ensures.answer_value)
    ∙ too_many r f _ _ _ aged c.mark_areas.ensures c.word-n.ensures c.in_default.is)

pub returns-in_default-clause-record_after : goal.returns-in_default-clause-record_after
returns-in_default-clause-record_after c = refused_so _ _ _ (no_refusal_is_zero TooManyAreas)

pub returns-in_default-clause-both : goal.returns-in_default-clause-both
returns-in_default-clause-both c = whole_entry _ _ (returns-in_default-clause-value c) (returns-in_default-clause-record_after c)

pub returns : goal.returns
returns c =
    let r = c.args.given.now in
    let f = c.args.file.now in
    let aged = aged_on r f _ _ _ c.age_all-aged.ensures c.gap.ensures c.word-date.ensures in
    let entry = taken r f _ _ _ aged c.mark_areas.ensures c.word-n.ensures c.in-Some.after c.in-Some.is in
    let value = sym (seq_next _ _ _ _ (opened r f) (sym c.in_ok-admit.ensures.answer_value) ∙ entry.0) in
    record {
      value = value;
      record_after = entry.1;
      both = whole_entry r f value entry.1;
    }

use Rattle.std.proofs.Common.{sym, ap, arith}
use Rattle.verdict.specs.Verdict.{number_of}
use Rattle.verdict.specs.First.{◌or_else◌}
use Rattle.verdict.proofs.First.{handed_on_in}
use Rattle.dayfile.proofs.Facts.{within_limits, file_head}
use Rattle.record_check.specs.Left.{admit_rule}
use Rattle.record_check.proofs.admit.Goals as goal

pub returns-in_err-plain-clause-answer_value : goal.returns-in_err-plain-clause-answer_value
unfolding admit_rule ◌or_else◌
returns-in_err-plain-clause-answer_value c =
    handed_on_in _ _ _ c.from_residual.ensures.1 (rw (← c.in_err-plain.ensures.answer_value))

pub word-requires : goal.word-requires
word-requires c =
    let f = c.args.file.now in
    let room = (file_head _ f (within_limits f (ap number_of (sym c.in_ok-plain.ensures.answer_value)))).room in
    omega arith

pub returns-in_err-judge-clause-answer_value : goal.returns-in_err-judge-clause-answer_value
unfolding admit_rule ◌or_else◌
returns-in_err-judge-clause-answer_value c =
    handed_on_in _ _ _ c.from_residual-in_err-judge.ensures.1
    (rw (← c.in_ok-plain.ensures.answer_value, ← c.word.ensures, ← c.in_err-judge.ensures))

pub returns-clause-answer_value : goal.returns-clause-answer_value
unfolding admit_rule ◌or_else◌
returns-clause-answer_value c =
    rw (← c.in_ok-plain.ensures.answer_value, ← c.word.ensures, ← c.in_ok-judge.ensures)

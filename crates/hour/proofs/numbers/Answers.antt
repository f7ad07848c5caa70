use Rattle.std.proofs.Common.{◌∙◌}
use Rattle.verdict.specs.First.{◌or_else◌}
use Rattle.verdict.proofs.First.{handed_on}
use Rattle.hour.specs.Check.{numbers_rule}
use Rattle.hour.proofs.numbers.Goals as goal

pub returns-in_err-deficiencies : goal.returns-in_err-deficiencies
unfolding numbers_rule ◌or_else◌
returns-in_err-deficiencies c = handed_on _ _ _ c.from_residual.ensures.1 (rw (← c.in_err-deficiencies.ensures))

pub returns-in_err-range : goal.returns-in_err-range
unfolding numbers_rule ◌or_else◌
returns-in_err-range c =
    handed_on _ _ _ c.from_residual-in_err-range.ensures.1
    (rw (← c.in_ok-deficiencies.ensures, ← c.word.ensures, ← c.in_err-range.ensures))

pub returns : goal.returns
unfolding numbers_rule ◌or_else◌
returns c =
    c.range-2.ensures
    ∙ rw (← c.in_ok-deficiencies.ensures, ← c.word.ensures, ← c.in_ok-range.ensures, c.magnitude-mec.ensures, c.word-2.ensures)

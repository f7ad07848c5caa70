use Rattle.std.proofs.Common.{◌∙◌}
use Rattle.verdict.specs.First.{◌or_else◌}
use Rattle.verdict.proofs.First.{handed_on}
use Rattle.hour.specs.Check.{hour_rule}
use Rattle.hour.proofs.first_broken.Goals as goal

pub returns-in_err-numbers : goal.returns-in_err-numbers
unfolding hour_rule ◌or_else◌
returns-in_err-numbers c = handed_on _ _ _ c.from_residual.ensures.1 (rw (← c.in_err-numbers.ensures))

pub returns-in_err-intervals : goal.returns-in_err-intervals
unfolding hour_rule ◌or_else◌
returns-in_err-intervals c =
    handed_on _ _ _ c.from_residual-in_err-intervals.ensures.1 (rw (← c.in_ok-numbers.ensures, ← c.in_err-intervals.ensures))

pub returns : goal.returns
unfolding hour_rule ◌or_else◌
returns c = c.demands.ensures ∙ rw (← c.in_ok-numbers.ensures, ← c.in_ok-intervals.ensures)

use Rattle.std.proofs.Common.{◌∙◌}
use Rattle.verdict.specs.First.{◌or_else◌}
use Rattle.verdict.proofs.First.{handed_on}
use Rattle.settlement.specs.Settlement.{hour_refusal}
use Rattle.settlement.proofs.check_hour.Goals as goal

pub returns-in_err-check_price : goal.returns-in_err-check_price
unfolding hour_refusal ◌or_else◌
returns-in_err-check_price c = handed_on _ _ _ c.from_residual.ensures.1 (rw (← c.in_err-check_price.ensures))

pub returns : goal.returns
unfolding hour_refusal ◌or_else◌
returns c = c.check_charge.ensures ∙ rw (← c.in_ok-check_price.ensures)

use Rattle.std.proofs.Common.{arith, to_z-of_z}
use Rattle.exact.proofs.Floor.{max_zero}
use Rattle.exact.proofs.at_least_zero.Goals as goal

pub returns : goal.returns
returns c = grind (arith, to_z-of_z, max_zero, c.max.ensures.value)

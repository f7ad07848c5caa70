use Rattle.std.proofs.Common.{arith, to_z-of_z}
use Rattle.exact.proofs.Floor.{min_zero}
use Rattle.exact.proofs.at_most_zero.Goals as goal

pub returns : goal.returns
returns c = grind (arith, to_z-of_z, min_zero, c.min.ensures.value)

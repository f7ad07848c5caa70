use Rattle.std.proofs.Common.{arith}
use Rattle.std.specs.Int.{w64}
use Rattle.exact.proofs.Machine.{within}
use Rattle.surcharge.proofs.Sizes.{difference_small}
use Rattle.surcharge.proofs.on_peak.Goals as goal

pub sub-requires : goal.sub-requires
sub-requires c =
    let a = c.args in
    let d = a.day in
    let k = c.requires in (
      omega arith,
      rw c.credit-credit.ensures
          (within w64 _ (omega (arith, difference_small d.most.0 k.0.most a.tier a.price.0 k.1 d.surcharge.0 k.0.surcharge))),
    )

use Rattle.std.proofs.Common.{refl, arith}
use Rattle.std.specs.Int.{w64}
use Rattle.exact.proofs.Machine.{within}
use Rattle.surcharge.proofs.Sizes.{product_small}
use Rattle.surcharge.proofs.surcharge.Goals as goal

pub scaled-requires : goal.scaled-requires
scaled-requires c =
    let a = c.args in
    let k = c.requires in (
      omega arith,
      (
        omega arith,
        (
          refl,
          rw (c.at_hub_price.ensures, c.scaled_multiplier.ensures)
              (within w64 _ (omega (arith, product_small a.terms k.0 a.most.0 k.1.0 a.hub.0 k.1.1 a.tier))),
        ),
      ),
    )

use Rattle.std.proofs.Common.{refl, arith}
use Rattle.std.specs.Int.{w64}
use Rattle.exact.proofs.Machine.{within}
use Rattle.surcharge.proofs.Sizes.{scaled_small}
use Rattle.surcharge.proofs.off_peak.Goals as goal

pub scaled-scaled-requires : goal.scaled-scaled-requires
scaled-scaled-requires c =
    let a = c.args in
    let k = c.requires.in_range in (
      omega arith,
      (
        omega arith,
        (
          refl,
          rw (c.at_market_price.ensures, c.scaled_multiplier.ensures)
              (within w64 _ (omega (arith, scaled_small a.terms c.requires.terms_kept a.upward.0 k.0 a.tier a.price.0 k.1))),
        ),
      ),
    )

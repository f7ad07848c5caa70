use Rattle.std.proofs.Common.{◌<◌, le_refl, arith}
use Rattle.std.specs.Int.{w32}
use Rattle.exact.proofs.Machine.{within}
use Rattle.exact.proofs.Round.{round_within}
use Rattle.limits.specs.Ranges.{most_market_price}
use Rattle.price.proofs.Sizes.{Sized, average_sized}
use Rattle.price.proofs.average_price.Goals as goal

pub per-requires-clause-price_fits : goal.per-requires-clause-price_fits
per-requires-clause-price_fits c =
    let a = c.averaged-average.result in
    let n = c.args.n in
    let z : Sized a n = rw c.averaged-average.ensures (average_sized c.args.pairs.now n n c.requires.ranged (le_refl n)) in
    let some : 0 < a.quantity.0 = omega arith in
    within w32 _ (omega (arith, round_within most_market_price a.value.0 a.quantity.0 some z.value))

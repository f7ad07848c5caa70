use Rattle.std.proofs.Common.{◌≡◌, ℕ, ◌≤◌, List, refl, ap, arith}
use Rattle.std.specs.Int.{w64}
use Rattle.exact.proofs.Machine.{within}
use Rattle.price.specs.declared.Sums.{Sums}
use Rattle.price.specs.Price.{average_of}
use Rattle.price.specs.Sums.{with_raised, average_from}
use Rattle.price.specs.Ranged.{Ranged}
use Rattle.price.proofs.Sizes.{Sized, average_sized, average_more}
use Rattle.price.proofs.Raised.{product_most, average_from_more}
use Rattle.price.proofs.averaged.Goals as goal

-- the sums of the first i intervals are as small as their average
sized : (pairs : List ℕ) (n i : ℕ) (sums : Sums) → Ranged pairs n → i ≤ n → average_from sums ≡ average_of pairs i → Sized (average_from sums) i
sized pairs n i sums r h e = rw e (average_sized pairs n i r h)

pub loop-i-init : goal.loop-i-init
unfolding average_of average_from
loop-i-init c = rw c.empty-sums.ensures (record { average = refl; value = omega arith })

pub with_interval-sums-requires-clause-quantity_and_count_fit : goal.with_interval-sums-requires-clause-quantity_and_count_fit
unfolding average_from
with_interval-sums-requires-clause-quantity_and_count_fit c =
    let l = c.loop-i in
    let z = sized c.args.pairs.now c.args.n l.i l.sums c.requires.ranged (omega arith) l.invariant.average in
    let q = c.requires.ranged.quantity l.i (omega arith) in (omega arith, omega arith)

pub loop-i-preserved : goal.loop-i-preserved
unfolding with_raised
loop-i-preserved c =
    let l = c.loop-i in
    let q = c.word.result in
    let p = c.word-in-loop-i.result in
    let e = average_from_more q p (omega arith) l.sums in
    let v = ap (λ s. s.value.0) c.with_interval-sums.ensures in
    record { average = rw average_more (cc); value = omega (arith, product_most q p, c.requires.ranged.quantity l.i (omega arith)) }

pub average-requires : goal.average-requires
unfolding average_from
average-requires c =
    let l = c.loop-i in
    let z = sized c.args.pairs.now c.args.n l.i l.sums c.requires.ranged (omega arith) l.invariant.average in within w64 _ (omega arith)

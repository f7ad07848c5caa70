use Rattle.std.proofs.Common.{◌≤◌, Bool, true, false, cond, arith}
use Rattle.hour.specs.Layout.{missing}
use Rattle.hour.proofs.Gathered.{none_gathered, interval_gathered}
use Rattle.hour.proofs.intervals_gathered.Goals as goal

one : (t : Bool) → cond t 0 1 ≤ 1
one true = omega arith
one false = omega arith

pub loop-i-init : goal.loop-i-init
loop-i-init c = record { few = omega arith; gathered = none_gathered _ _ }

pub loop-i-preserved : goal.loop-i-preserved
loop-i-preserved c =
    let l = c.loop-i in
    let most : c.present-priced.result ≤ 1 = rw c.present-priced.ensures (one (missing c.word-price.result)) in
    record {
      few = omega arith;
      gathered = interval_gathered _ _ _ _ _ _ _ _ _ _ _ _ l.invariant.gathered c.word-quantity.ensures c.word-price.ensures
          c.outside.ensures c.price_outside.ensures c.present-priced.ensures c.counted-quantities.ensures;
    }

use Rattle.std.proofs.Common.{◌∙◌, arith}
use Rattle.std.specs.Int.{w64}
use Rattle.limits.specs.Ranges.{day_hours}
use Rattle.exact.proofs.Machine.{got}
use Rattle.amounts.proofs.Hours.{walk_on}
use Rattle.amounts.proofs.AmountSizes.{amount_back, amounts_ranged}
use Rattle.collecting.specs.Directions.{amount_in}
use Rattle.collecting.proofs.Hours.{hour_stored, hours_filled}
use Rattle.collecting.proofs.Sizes.{upward_is, downward_is}
use Rattle.collecting.proofs.collect.Goals as goal

pub upward_amount-requires : goal.upward_amount-requires
upward_amount-requires c =
    let r = c.requires in amounts_ranged c.args.terms c.args.body.now c.loop-h.h _ c.amounts-amounts.ensures r.1.0 (omega arith) r.0

pub next_hour-at-requires : goal.next_hour-at-requires
next_hour-at-requires c =
    let l = c.loop-h in
    walk_on _ c.requires.1.0 l.h (omega arith) _ l.invariant.start _ _ c.word-load.ensures c.word-count.ensures (omega arith)

pub loop-h-preserved : goal.loop-h-preserved
loop-h-preserved c =
    let t = c.args.terms in
    let b = c.args.body.now in
    let l = c.loop-h in
    let r = c.requires in
    let is = c.amounts-amounts.ensures in
    let ranged = amounts_ranged t b l.h _ is r.1.0 (omega arith) r.0 in
    let filling = l.invariant.filling in
    record {
      start = rw (← c.word-load.ensures, ← c.word-count.ensures) c.next_hour-at.ensures;
      filling = hour_stored (amount_in t b) l.h day_hours _ _ filling (omega arith) (omega (arith, filling.kept))
          (got w64 c.upward_amount.type_inv (c.upward_amount.ensures ∙ upward_is t b l.h _ is))
          (amount_back _ ranged.down ∙ downward_is t b l.h _ is);
    }

pub returns : goal.returns
returns c = let l = c.loop-h in hours_filled _ l.h day_hours (omega arith) l.invariant.filling

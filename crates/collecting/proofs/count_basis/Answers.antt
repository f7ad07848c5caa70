use Rattle.std.proofs.Common.{◌≡◌, ℕ, cond, ◌&&◌, eqb, List, get_or, ap, ◌∙◌, arith}
use Rattle.limits.specs.Ranges.{day_hours}
use Rattle.body.specs.Layout.{flag_of}
use Rattle.amounts.specs.Amounts.{upward_from, downward_from}
use Rattle.amounts.proofs.Hours.{walk_ranged, walk_on}
use Rattle.collecting.specs.Directions.{Direction, Upward, Downward, deficiency_in, basis_in}
use Rattle.collecting.proofs.Hours.{hour_stored, hours_filled}
use Rattle.collecting.proofs.count_basis.Goals as goal

-- the basis of an hour, counted by what was read of the body
counts : (body basis : List ℕ) (h : ℕ) (direction : Direction) {flag deficiency number : ℕ} → flag ≡ flag_of body → deficiency ≡ deficiency_in body h direction
    → number ≡ cond (eqb flag 1 && eqb deficiency 0) (get_or basis h 0) 0 → number ≡ basis_in body basis h direction
unfolding basis_in
counts body basis h direction f d is = is ∙ rw (f, d)

pub upward-upward-requires : goal.upward-upward-requires
upward-upward-requires c = let l = c.loop-h in walk_ranged _ c.requires.0 l.h (omega arith) _ l.invariant.start

pub downward_quantity-downward-requires : goal.downward_quantity-downward-requires
downward_quantity-downward-requires c = let l = c.loop-h in walk_ranged _ c.requires.0 l.h (omega arith) _ l.invariant.start

pub next_hour-at-requires : goal.next_hour-at-requires
next_hour-at-requires c =
    let l = c.loop-h in
    walk_on _ c.requires.0 l.h (omega arith) _ l.invariant.start _ _ c.word-load.ensures c.word-count.ensures (omega arith)

pub loop-h-preserved : goal.loop-h-preserved
loop-h-preserved c =
    let b = c.args.body.now in
    let basis = c.args.basis.now in
    let l = c.loop-h in
    let flag = c.word-flag.ensures in
    let filling = l.invariant.filling in
    record {
      start = rw (← c.word-load.ensures, ← c.word-count.ensures) c.next_hour-at.ensures;
      filling = hour_stored (basis_in b basis) l.h day_hours _ _ filling (omega arith) (omega (arith, filling.kept))
          (counts b basis l.h Upward flag (c.upward-upward.ensures ∙ ap (upward_from b) l.invariant.start) c.where_passed.ensures)
          (counts b basis l.h Downward flag (c.downward_quantity-downward.ensures ∙ ap (downward_from b) l.invariant.start) c.where_passed-in-loop-h.ensures);
    }

pub returns : goal.returns
returns c = let l = c.loop-h in hours_filled _ l.h day_hours (omega arith) l.invariant.filling

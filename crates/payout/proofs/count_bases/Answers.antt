use Rattle.std.proofs.Common.{◌≡◌, ℕ, ◌*◌, ◌-◌, List, length, take, drop, length-drop}
use mathlib.Core.Bool.{cond}
use native.Mathlib.Nat.{le_refl}
use lib.Seq.{take_all, get_or-drop}
use Rattle.limits.specs.Ranges.{day_hours}
use Rattle.contents.specs.File.{body_at}
use Rattle.collecting.specs.Directions.{passes, basis_in}
use Rattle.payout_rules.specs.PayOut.{basis_of}
use Rattle.payout_rules.proofs.Areas.{areas_step}
use Rattle.payout.proofs.count_bases.Goals as goal

-- the basis of area k is what stands from its first number on
counted_there : (file basis : List ℕ) (k : ℕ) (body : List ℕ) → body ≡ body_at file k
    → basis_in body (take (length basis - day_hours * k) (drop (day_hours * k) basis)) ≡ basis_of file basis k
unfolding basis_in
counted_there file basis k body e =
    let from = day_hours * k in
    rw (e, take_all (length basis - from) (drop from basis) (rw length-drop (le_refl _)))
    (λ i h direction. cond (passes (body_at file k) h direction) (get_or-drop from basis h 0 i) 0)

pub loop-k-preserved : goal.loop-k-preserved
loop-k-preserved c =
    let a = c.args in
    let l = c.loop-k in
    let is = counted_there a.file.now a.basis.now l.k _ c.body_at-body.ensures.0 in
    areas_step (basis_of a.file.now a.basis.now) l.k a.counted.now l.counted _ l.invariant (rw is at c.count_basis.ensures)

use Rattle.std.proofs.Common.{◌≡◌, ℕ, zero, suc, ◌+◌, ◌*◌, ◌/◌, ◌<◌, List, length, get_or, take, drop, refl, ap, ap₂, ◌∙◌, arith}
use Rattle.std.specs.List.{sum_by}
use Rattle.std.specs.Simd.{first_chunks}
use Rattle.std.proofs.lemmas.List.{drop-drop, get_or-take}
use Rattle.std.proofs.lemmas.List.Sums.{sum_by-cons}
use lib.Seq.{get_or-drop}
use Rattle.exact.specs.Total.{total}
use Rattle.limits.specs.Ranges.{day_hours}
use Rattle.verdict.proofs.First.{loop_next, loop_stop}
use Rattle.paying.specs.Columns.{each}
use Rattle.payout_rules.specs.PayOut.{basis_number, basis_at}
use Rattle.payout_rules.proofs.Basis.{hour_kept, hour_broken}
use Rattle.payout.proofs.check_basis.Goals as goal

-- the numbers of hour h, from area k on
hour_sum : (basis : List ℕ) (h k n : ℕ) → h < day_hours
    → sum_by (λ area. get_or area h 0) (first_chunks day_hours n (drop (day_hours * k) basis)) ≡ total (each (λ i. basis_number basis i h) k n)
unfolding total each
hour_sum basis h k zero below = refl
hour_sum basis h k (suc n) below =
    let number : List ℕ → ℕ = λ area. get_or area h 0 in
    let behind = drop (day_hours * k) basis in
    let next : day_hours * k + day_hours ≡ day_hours * suc k = omega arith in
    let rest : drop day_hours behind ≡ drop (day_hours * suc k) basis =
    drop-drop day_hours (day_hours * k) basis ∙ ap (λ m. drop m basis) next in
    sum_by-cons number (take day_hours behind) (first_chunks day_hours n (drop day_hours behind))
    ∙ ap₂ ◌+◌ (get_or-take day_hours behind h 0 below ∙ get_or-drop (day_hours * k) basis h 0)
    (ap (λ l. sum_by number (first_chunks day_hours n l)) rest ∙ hour_sum basis h (suc k) n below)

-- and of every area
hour_is : (basis : List ℕ) (areas : List (List ℕ)) (n h : ℕ) → h < day_hours → length basis ≡ day_hours * n
    → areas ≡ first_chunks day_hours (length basis / day_hours) basis → sum_by (λ area. get_or area h 0) areas ≡ total (basis_at basis n h)
hour_is basis areas n h below long are =
    let count : length basis / day_hours ≡ n = omega arith in
    rw (are, count) (hour_sum basis h 0 n below)

pub returns-then-hour_basis : goal.returns-then-hour_basis
returns-then-hour_basis c =
    let a = c.args in
    let h = c.loop-h.h in
    let below : h < day_hours = omega arith in
    let sum = c.hour_basis.ensures ∙ hour_is a.basis.now _ a.n h below c.if-basis-n.false c.as_chunks.ensures.front in
    let broken = hour_broken a.basis.now a.n h (omega (arith, sum, c.if-hour_basis.true)) in
    loop_stop _ _ _ _ _ c.loop-h.invariant below broken

pub loop-h-preserved : goal.loop-h-preserved
loop-h-preserved c =
    let a = c.args in
    let h = c.loop-h.h in
    let below : h < day_hours = omega arith in
    let sum = c.hour_basis.ensures ∙ hour_is a.basis.now _ a.n h below c.if-basis-n.false c.as_chunks.ensures.front in
    let kept = hour_kept a.basis.now a.n h (omega (arith, sum, c.if-hour_basis.false)) in
    loop_next _ _ _ _ _ c.loop-h.invariant below kept

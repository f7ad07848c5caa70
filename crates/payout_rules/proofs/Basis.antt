-- The rule of the basis (23): by what each hour adds up to alone, and what an acceptance says.
use Prim.Native.Nat.{ℕ, zero, suc, ◌*◌, ◌≤◌, ◌<◌, zero-le}
use mathlib.Core.Bool.{Bool, true, false, cond}
use mathlib.Core.List.{List, [], ◌∷◌}
use mathlib.Core.Path.{◌≡◌, refl}
use native.Mathlib.Omega.{arith}
use borrow.Author.Tests.{leb-true, eqb-true, le-leb, lt-leb}
use lib.Dec.{leb, eqb}
use lib.ListN.{length}
use Rattle.std.specs.Prelude.{Err}
use Rattle.exact.specs.Total.{total}
use Rattle.limits.specs.Ranges.{day_hours, most_basis}
use Rattle.verdict.specs.declared.Refusal.TheVariants.{BadBasis}
use Rattle.verdict.specs.Verdict.{number_of, Accepted}
use Rattle.verdict.specs.First.{scan}
use Rattle.verdict.proofs.First.{kept, scan_each}
use Rattle.contents.specs.File.{body_at}
use Rattle.collecting.specs.Directions.{Direction, passes}
use Rattle.paying.specs.Columns.{each}
use Rattle.payout_rules.specs.PayOut.{all_within, basis_number, basis_at, hour_basis_rule, basis_rule, basis_of}

-- what adds up to at most m has no larger number in it
within_total : (m : ℕ) (numbers : List ℕ) → total numbers ≤ m → all_within m numbers ≡ true
unfolding total
within_total m [] h = refl
within_total m (number ∷ numbers) h = rw (le-leb number m (omega arith)) (within_total m numbers (omega arith))

module _ (basis : List ℕ) (n h : ℕ) where
  pub hour_kept : total (basis_at basis n h) ≤ most_basis → hour_basis_rule basis n h ≡ Accepted
  unfolding hour_basis_rule
  hour_kept small = rw (within_total most_basis (basis_at basis n h) small, le-leb (total (basis_at basis n h)) most_basis small)

  pub hour_broken : most_basis < total (basis_at basis n h) → hour_basis_rule basis n h ≡ Err BadBasis
  unfolding hour_basis_rule
  hour_broken large = grind (arith, lt-leb)

-- what an accepted basis keeps
module _ (basis : List ℕ) (n : ℕ) (accepted : number_of (basis_rule basis n) ≡ 0) where
  both : (eqb (length basis) (day_hours * n) ≡ true) × (number_of (scan (hour_basis_rule basis n) 0 day_hours) ≡ 0)
  unfolding basis_rule
  both = kept (eqb (length basis) (day_hours * n)) BadBasis _ accepted

  pub basis_long : length basis ≡ day_hours * n
  basis_long = eqb-true _ _ both.0

  pub basis_small : (h : ℕ) → h < day_hours → total (basis_at basis n h) ≤ most_basis
  unfolding hour_basis_rule
  basis_small h below =
      let hour = scan_each (hour_basis_rule basis n) day_hours both.1 h below in
      let sum = (kept (all_within most_basis (basis_at basis n h)) BadBasis _ hour).1 in
      leb-true _ _ (kept (leb (total (basis_at basis n h)) most_basis) BadBasis Accepted sum).0

-- ---- a basis that counts only where an area passes is no larger

total_less : (one other : ℕ → ℕ) (k n : ℕ) → ((i : ℕ) → one i ≤ other i) → total (each one k n) ≤ total (each other k n)
unfolding total each
total_less one other k zero less = zero-le
total_less one other k (suc n) less = omega (arith, less k, total_less one other (suc k) n less)

where_counted : (t : Bool) (m : ℕ) → cond t m 0 ≤ m
where_counted true m = omega arith
where_counted false m = zero-le

pub passing_small : (file basis : List ℕ) (n h : ℕ) (direction : Direction)
    → total (each (λ k. basis_of file basis k h direction) 0 n) ≤ total (basis_at basis n h)
passing_small file basis n h direction =
    total_less (λ k. basis_of file basis k h direction) (λ k. basis_number basis k h) 0 n
    (λ k. where_counted (passes (body_at file k) h direction) (basis_number basis k h))

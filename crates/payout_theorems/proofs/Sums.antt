-- Sums of whole numbers: one more, two together, in another order, and those of a table of payments.
use Prim.Native.Nat.{ℕ, zero, suc, ◌+◌}
use mathlib.Core.List.{List, [], ◌∷◌, ◌++◌}
use mathlib.Core.Path.{◌≡◌, refl, sym, ap, ap₂, ◌∙◌}
use native.Mathlib.Nat.{add-zero, zero-add}
use native.Mathlib.Omega.{arith}
use lib.IntN.{ℤ, pos, ◌+ℤ◌, +ℤ_idl, +ℤ_idr, +ℤ_assoc}
use Rattle.exact.proofs.Difference.{crosswise}
use Rattle.limits.specs.Ranges.{day_hours}
use Rattle.shares.specs.Shares.{sum}
use Rattle.collecting.specs.Directions.{Direction, Upward, Downward, hours_from, day_of}
use Rattle.paying.specs.Columns.{each}
use Rattle.paying.proofs.Nothing.{sum_nothing}
use Rattle.payout_rules.specs.PayOut.{areas_to}

pub sum-append : (xs ys : List ℤ) → sum (xs ++ ys) ≡ sum xs +ℤ sum ys
unfolding sum
sum-append [] ys = sym (+ℤ_idl (sum ys))
sum-append (x ∷ xs) ys = ap (λ z. x +ℤ z) (sum-append xs ys) ∙ sym (+ℤ_assoc x (sum xs) (sum ys))

-- the last of n + 1 numbers
each_last : {A : Type 0} (number : ℕ → A) (k n : ℕ) → each number k (suc n) ≡ each number k n ++ (number (k + n) ∷ [])
unfolding each
each_last number k zero = rw (add-zero k)
each_last number k (suc n) =
    let e : k + suc n ≡ suc k + n = omega arith in
    rw e (ap (λ xs. number k ∷ xs) (each_last number (suc k) n))

pub sum_last : (number : ℕ → ℤ) (n : ℕ) → sum (each number 0 (suc n)) ≡ sum (each number 0 n) +ℤ number n
unfolding sum
sum_last number n =
    ap sum (each_last number 0 n ∙ ap (λ i. each number 0 n ++ (number i ∷ [])) (zero-add n))
    ∙ sum-append (each number 0 n) (number n ∷ [])
    ∙ ap (λ z. sum (each number 0 n) +ℤ z) (+ℤ_idr (number n))

pub sum_both : (one other : ℕ → ℤ) (k n : ℕ) → sum (each (λ i. one i +ℤ other i) k n) ≡ sum (each one k n) +ℤ sum (each other k n)
unfolding sum each
sum_both one other k zero = refl
sum_both one other k (suc n) =
    ap (λ z. (one k +ℤ other k) +ℤ z) (sum_both one other (suc k) n)
    ∙ crosswise (one k) (other k) (sum (each one (suc k) n)) (sum (each other (suc k) n))

-- row by row, or column by column
pub sum_swapped : (number : ℕ → ℕ → ℤ) (m k n : ℕ)
    → sum (each (λ i. sum (each (number i) 0 m)) k n) ≡ sum (each (λ j. sum (each (λ i. number i j) k n)) 0 m)
unfolding sum each
sum_swapped number m k zero = sym (sum_nothing (λ _. pos 0) 0 m (λ i p. refl))
sum_swapped number m k (suc n) =
    ap (λ z. sum (each (number k) 0 m) +ℤ z) (sum_swapped number m (suc k) n)
    ∙ sym (sum_both (number k) (λ j. sum (each (λ i. number i j) (suc k) n)) 0 m)

-- ---- of a table of payments

-- the two directions of an hour together
abbrev pub both_of : (ℕ → Direction → ℤ) → ℕ → ℤ
both_of numbers h = numbers h Upward +ℤ numbers h Downward

sum_hours : (numbers : ℕ → Direction → ℤ) (h n : ℕ) → sum (hours_from numbers h n) ≡ sum (each (both_of numbers) h n)
unfolding sum each hours_from
sum_hours numbers h zero = refl
sum_hours numbers h (suc n) =
    ap (λ z. numbers h Upward +ℤ (numbers h Downward +ℤ z)) (sum_hours numbers (suc h) n)
    ∙ sym (+ℤ_assoc (numbers h Upward) (numbers h Downward) (sum (each (both_of numbers) (suc h) n)))

pub sum_day : (numbers : ℕ → Direction → ℤ) → sum (day_of numbers) ≡ sum (each (both_of numbers) 0 day_hours)
sum_day numbers = sum_hours numbers 0 day_hours

pub sum_areas : (numbers : ℕ → ℕ → Direction → ℤ) (n : ℕ)
    → sum (areas_to numbers n) ≡ sum (each (λ k. sum (each (both_of (numbers k)) 0 day_hours)) 0 n)
unfolding sum each areas_to
sum_areas numbers zero = refl
sum_areas numbers (suc n) =
    sum-append (areas_to numbers n) (day_of (numbers n))
    ∙ ap₂ ◌+ℤ◌ (sum_areas numbers n) (sum_day (numbers n))
    ∙ sym (sum_last (λ k. sum (each (both_of (numbers k)) 0 day_hours)) n)

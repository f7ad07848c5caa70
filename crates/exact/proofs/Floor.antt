-- The floors at 0, which the code finds as `max` and `min` do.
use mathlib.Core.Path.{◌≡◌, refl}
use borrow.Author.Rules.{rules}
use Prim.Native.Nat.{zero, suc, ◌≤◌, zero-le}
use native.Mathlib.Nat.{le_refl}
use lib.IntN.{ℤ, pos, negsuc, nat_abs}
use Rattle.std.specs.Int.{int_max, int_min}
use Rattle.exact.specs.Floor.{at_least_zero, at_most_zero}

pub max_zero : (z : ℤ) → int_max z (pos 0) ≡ at_least_zero z
unfolding at_least_zero
max_zero (pos zero) = refl
max_zero (pos (suc n)) = search rules
max_zero (negsuc n) = refl

pub min_zero : (z : ℤ) → int_min z (pos 0) ≡ at_most_zero z
unfolding at_most_zero
min_zero (pos zero) = refl
min_zero (pos (suc n)) = search rules
min_zero (negsuc n) = refl

-- a floor makes no number larger
pub abs_at_least : (z : ℤ) → nat_abs (at_least_zero z) ≤ nat_abs z
unfolding at_least_zero
abs_at_least (pos n) = le_refl n
abs_at_least (negsuc n) = zero-le

pub abs_at_most : (z : ℤ) → nat_abs (at_most_zero z) ≤ nat_abs z
unfolding at_most_zero
abs_at_most (pos n) = zero-le
abs_at_most (negsuc n) = le_refl _

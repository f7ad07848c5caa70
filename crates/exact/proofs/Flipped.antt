-- A number below 0 by how far it is from -1, which always fits, and one that is not below 0 by itself.
use Prim.Native.Nat.{ℕ, suc, ◌+◌, ◌<◌}
use mathlib.Core.Bool.{true, false, true≢false}
use mathlib.Core.Path.{◌≡◌, refl, ap}
use native.Mathlib.Omega.{arith}
use lib.Dec.{T}
use lib.IntN.{ℤ, pos, negsuc, nat_abs, ◌-ℤ◌}
use lib.Signed.{lt_z, mag, non_neg}
use borrow.Author.Tests.{le-ltb, ltb-true}

minus : (k : ℕ) → negsuc 0 -ℤ negsuc k ≡ pos k
minus k = rw (le-ltb (suc k) 1 (omega arith)) (ap pos (omega arith))

pub below_zero : (z : ℤ) → lt_z z (pos 0) ≡ true → (negsuc 0 -ℤ z ≡ pos (mag z)) × (nat_abs z ≡ mag z + 1)
below_zero (pos a) t = let h : a < 0 = ltb-true a 0 t in absurd (omega (arith, h))
below_zero (negsuc k) t = (minus k, omega arith)

pub not_below_zero : (z : ℤ) → lt_z z (pos 0) ≡ false → T (non_neg z) × (nat_abs z ≡ mag z)
not_below_zero (pos a) t = (tt, refl)
not_below_zero (negsuc k) t = absurd (true≢false t)

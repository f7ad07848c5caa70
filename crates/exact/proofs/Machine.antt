-- What the machine holds of a signed number: which numbers fit, and what is read back from the bits.
use mathlib.Core.Path.{◌≡◌, sym, ap, ◌∙◌}
use Prim.Native.Nat.{◌<◌, ◌≤◌, ◌^◌}
use native.Mathlib.Nat.{le_refl, le-suc, lt_of_le_of_lt}
use lib.IntN.{ℤ, pos, negsuc, nat_abs}
use lib.Signed.{mag}
use mir.Syntax.{Width, w64}
use mir.Val.{SFits, of_z, to_z, hbits}
use mir.ValLaws.{to_z-of_z}

mag_le : (z : ℤ) → mag z ≤ nat_abs z
mag_le (pos n) = le_refl n
mag_le (negsuc n) = le-suc n

-- a number within the width's range fits
pub within : (w : Width) (z : ℤ) → nat_abs z < 2 ^ hbits w → SFits w z
within w z h = record { sfits = lt_of_le_of_lt (mag_le z) h }

-- what is read back of a call's result: `got w64 c.f.ok c.f.ensures`
pub got : (w : Width) {r z : ℤ} → mag r < 2 ^ hbits w → r ≡ z → to_z w (of_z w r) ≡ z
got w {r} k e = to_z-of_z w r (record { sfits = k }) ∙ e

-- what the code finds equal to 0 is 0: it compares the bits
pub zero_bits : {z : ℤ} → SFits w64 z → of_z w64 z ≡ 0 → z ≡ pos 0
zero_bits {z} f e = sym (to_z-of_z w64 z f) ∙ ap (to_z w64) e

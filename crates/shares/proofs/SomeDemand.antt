-- An amount can be shared where it is 0, or there is demand.
use Prim.Native.Nat.{ℕ, zero, suc, ◌<◌}
use mathlib.Core.Bool.{Bool, true, false, ◌||◌}
use mathlib.Core.Logic.{◌⊎◌, inl, inr, ⊎_elim}
use mathlib.Core.Path.{◌≡◌, refl}
use native.Mathlib.Omega.{arith}
use lib.Dec.{eqb, ltb}
use lib.IntN.{ℤ, pos, negsuc, nat_abs}
use borrow.Author.Tests.{eqb-true, ltb-true}

pub either : (a b : Bool) → (a || b) ≡ true → (a ≡ true) ⊎ (b ≡ true)
either true b h = inl refl
either false b h = inr h

zero_is : (z : ℤ) → nat_abs z ≡ 0 → z ≡ pos 0
zero_is (pos zero) e = refl
zero_is (pos (suc n)) e = absurd (omega arith)
zero_is (negsuc n) e = absurd (omega arith)

pub shareable_when : (amount : ℤ) (t : ℕ) → (eqb (nat_abs amount) 0 || ltb 0 t) ≡ true → (amount ≡ pos 0) ⊎ (0 < t)
shareable_when amount t h = ⊎_elim (λ e. inl (zero_is amount (eqb-true _ _ e))) (λ e. inr (ltb-true _ _ e)) (either (eqb (nat_abs amount) 0) _ h)

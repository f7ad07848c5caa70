-- No amount and no credit depends on a price that is not needed.
use Prim.Native.Nat.{ℕ}
use mathlib.Core.Bool.{Bool, true, false, ◌&&◌}
use mathlib.Core.Path.{◌≡◌, refl}
use native.Mathlib.Omega.{arith}
use lib.Dec.{eqb, leb}
use lib.IntN.{ℤ}
use borrow.Author.Tests.{leb-false, le-leb}
use Rattle.surcharge.specs.declared.Terms.{Terms}
use Rattle.surcharge.specs.Surcharge.{credit_of, on_peak_of, credit_in_cents, off_peak_of, needs_price}

on_by : (s : ℤ) (most day tier : ℕ) (p q : ℤ) (t u : Bool) → leb day 1 ≡ t → eqb tier 0 ≡ u → (leb 2 day && u)
    ≡ false
    → (on_peak_of s most day tier p ≡ on_peak_of s most day tier q) × (credit_in_cents most day tier p ≡ credit_in_cents most day tier q)
unfolding on_peak_of credit_of credit_in_cents
on_by s most day tier p q true u e f h = rw e (refl, refl)
on_by s most day tier p q false true e f h =
    let z : leb 2 day ≡ true = le-leb 2 day (leb-false day 1 e) in
    let n : ◌≡◌ {A = ℕ} 0 1 = cc in absurd (omega arith)
on_by s most day tier p q false false e f h = rw f (refl, refl)

pub on_unneeded : (s : ℤ) (most day tier : ℕ) (p q : ℤ) → needs_price 1 true day tier ≡ false
    → (on_peak_of s most day tier p ≡ on_peak_of s most day tier q) × (credit_in_cents most day tier p ≡ credit_in_cents most day tier q)
on_unneeded s most day tier p q h = on_by s most day tier p q (leb day 1) (eqb tier 0) refl refl h

pub off_unneeded : (terms : Terms) (upward tier : ℕ) (p q : ℤ) → leb 2 tier ≡ false → off_peak_of terms upward tier p ≡ off_peak_of terms upward tier q
unfolding off_peak_of
off_unneeded terms upward tier p q h =
    let e : leb tier 1 ≡ true = le-leb tier 1 (omega (arith, leb-false 2 tier h)) in
    rw e

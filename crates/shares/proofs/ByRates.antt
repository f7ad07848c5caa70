-- R(A × C / T) by the rates of A and T: the guess is at most one below the quotient, and two tests of what it leaves over round it.
use Prim.Native.Nat.{ℕ, suc, ◌+◌, ◌*◌, ◌-◌, ◌/◌, ◌%◌, ◌≤◌, ◌<◌}
use mathlib.Core.Bool.{Bool, true, false, cond}
use mathlib.Core.Path.{◌≡◌, refl, sym, ap, ◌∙◌}
use native.Mathlib.Nat.{le_of_lt, add-mul, suc-mul, mul_comm, mul_right_comm, mul-le-mul_left, mul-le-mul_right}
use native.Mathlib.Nat.{div-add-mod', div-mul-le_self, lt-div-mul-add}
use native.Mathlib.Omega.{arith}
use lib.Dec.{leb}
use borrow.Author.Tests.{leb-true, leb-false}
use Rattle.exact.specs.Round.{half_up}
use Rattle.exact.proofs.Round.{half_is, half_low, half_high}
use Rattle.shares.specs.Rates.{rate_parts}

-- the quotient of r × C and T, by the parts of r
abbrev pub guess_of : ℕ → ℕ → ℕ
guess_of part c = part * c / rate_parts

-- p parts of a cent are at most r / t and less than one part below it; q cents are at most p parts, c times, and less than one cent below
parts_near : (r t c p q : ℕ) → c ≤ rate_parts → p * t ≤ r * rate_parts → r * rate_parts < p * t + t → q * rate_parts ≤ p * c
    → p * c < q * rate_parts + rate_parts → (q * t ≤ r * c) × (r * c < q * t + 2 * t)
parts_near r t c p q few p-low p-high q-low q-high =
    let pct = mul_right_comm p c t in
    let qkt = mul_right_comm q rate_parts t in
    let rkc = mul_right_comm r rate_parts c in (
      omega (arith, mul-le-mul_right c p-low, mul-le-mul_right t q-low),
      omega (
        arith,
        mul-le-mul_right c (le_of_lt p-high),
        add-mul (p * t) t c,
        mul-le-mul_left t few,
        mul-le-mul_right t q-high,
        suc-mul (p * c) t,
        add-mul (q * rate_parts) rate_parts t,
      ),
    )

-- at most one below the quotient
pub guess_near : (r t c : ℕ) → 0 < t → c ≤ rate_parts → let q = guess_of (r * rate_parts / t) c in (q * t ≤ r * c) × (r * c < q * t + 2 * t)
guess_near r t c some few =
    let p = r * rate_parts / t in
    parts_near r t c p (guess_of p c) few (div-mul-le_self (r * rate_parts) t) (lt-div-mul-add {a = r * rate_parts} some)
    (div-mul-le_self (p * c) rate_parts) (lt-div-mul-add {a = p * c} {b = rate_parts} (omega arith))

-- a guess, rounded by what it leaves over of a: one more from half of b on, and one more from three halves on
abbrev pub from_guess : (a b guess : ℕ) → ℕ
from_guess a b guess = guess + cond (leb b (2 * (a - guess * b))) 1 0 + cond (leb (3 * b) (2 * (a - guess * b))) 1 0

pub rounded : (a b guess : ℕ) → guess * b ≤ a → a < guess * b + 2 * b → from_guess a b guess ≡ half_up a b
rounded a b g low high = sym (by (leb b (2 * (a - g * b))) (leb (3 * b) (2 * (a - g * b))) refl refl)
  where
    by : (s t : Bool) → leb b (2 * (a - g * b)) ≡ s → leb (3 * b) (2 * (a - g * b)) ≡ t → half_up a b ≡ g + cond s 1 0 + cond t 1 0
    by false false e f = half_is a b (g + 0 + 0) (omega arith) (omega (arith, leb-false))
    by true false e f = half_is a b (g + 1 + 0) (omega (arith, leb-true, suc-mul g b)) (omega (arith, leb-false, suc-mul g b))
    by false true e f = absurd (omega (arith, leb-false, leb-true))
    by true true e f =
        let two : suc (suc g) * b ≡ g * b + b + b = omega (arith, suc-mul g b, suc-mul (suc g) b) in
        half_is a b (g + 1 + 1) (omega (arith, leb-true)) (omega arith)

half_more : (n a b : ℕ) → 0 < b → half_up (n * b + a) b ≡ n + half_up a b
half_more n a b some =
    let h = half_up a b in
    let low = half_low a b in
    let high = half_high a b some in
    let more = add-mul n h b in
    let turn = mul_comm b h in
    half_is (n * b + a) b (n + h) (omega arith) (omega arith)

-- whole cents, and R of what they leave over
pub by_rates : (size t c : ℕ) → 0 < t → size / t * c + half_up (size % t * c) t ≡ half_up (size * c) t
by_rates size t c some =
    let e = size / t in
    let r = size % t in
    let whole : size * c ≡ e * c * t + r * c = ap (λ a. a * c) (sym (div-add-mod' size t)) ∙ omega (arith, add-mul (e * t) r c, mul_right_comm e t c) in
    sym (half_more (e * c) (r * c) t some) ∙ ap (λ a. half_up a t) (sym whole)

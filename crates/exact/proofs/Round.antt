-- The laws of R.
use mathlib.Core.Path.{◌≡◌, refl, sym, ap, ◌∙◌}
use Prim.Native.Nat.{ℕ, zero, suc, ◌+◌, ◌*◌, ◌/◌, ◌%◌, ◌<◌, ◌≤◌, zero-le}
use lib.Arith.{digits_div}
use native.Mathlib.Nat.{div-mul-le_self, lt-div-mul-add, mul_comm, mul-zero, div-zero, le_of_suc-le-suc, div-lt_iff_lt-mul, suc-mul, mul_left_comm}
use native.Mathlib.Nat.{le-mul_of_pos_right, zero-lt-suc, div-eq_of_lt-le, div-add-mod', div-le_self, mod-lt}
use native.Mathlib.Omega.{arith}
use lib.IntN.{ℤ, pos, negsuc, neg_ℤ, nat_abs, ◌-ℤ◌, ◌*ℤ◌, neg_ℤ-neg_ℤ}
use lib.Signed.{mag, quot_z}
use mir.Syntax.{Width}
use mir.Val.{SFits}
use mir.ValLaws.{sfits_le}
use Rattle.exact.specs.Round.{round_div, half_up}
use Rattle.exact.proofs.Magnitude.{sub_ind, abs_neg}
use Rattle.exact.proofs.Difference.{minus_sub, mul_neg, minus_neg}

half_le : (a b : ℕ) → half_up a b ≤ a
half_le a zero = rw (mul-zero 2, div-zero) zero-le
half_le a (suc b) =
    le_of_suc-le-suc
    ((div-lt_iff_lt-mul {y = suc a} (omega arith)).1
    (omega (arith, suc-mul a (2 * suc b), mul_left_comm a 2 (suc b), le-mul_of_pos_right a (zero-lt-suc b))))

half_zero : (b : ℕ) → half_up 0 b ≡ 0
half_zero b = omega (arith, half_le 0 b)

pub round_zero : (b : ℕ) → round_div (pos 0) b ≡ pos 0
unfolding round_div
round_zero b = ap pos (half_zero b)

-- R is no larger than what is divided
pub abs_round : (z : ℤ) (b : ℕ) → nat_abs (round_div z b) ≤ nat_abs z
unfolding round_div
abs_round (pos a) b = half_le a b
abs_round (negsuc a) b = rw (abs_neg (pos (half_up (suc a) b))) (half_le (suc a) b)

half_within : (m a b : ℕ) → 0 < b → a ≤ m * b → half_up a b ≤ m
half_within m a b h k =
    le_of_suc-le-suc
    ((div-lt_iff_lt-mul {y = suc m} (omega arith)).1 (omega (arith, suc-mul m (2 * b), mul_left_comm m 2 b)))

-- where the number is at most m times the divisor, R is at most m
pub round_within : (m : ℕ) (z : ℤ) (b : ℕ) → 0 < b → nat_abs z ≤ m * b → nat_abs (round_div z b) ≤ m
unfolding round_div
round_within m (pos a) b h k = half_within m a b h k
round_within m (negsuc a) b h k = rw (abs_neg (pos (half_up (suc a) b))) (half_within m (suc a) b h k)

mag_neg : (r a : ℕ) → r ≤ suc a → mag (neg_ℤ (pos r)) ≤ a
mag_neg zero a h = zero-le
mag_neg (suc r) a h = le_of_suc-le-suc h

mag_round : (z : ℤ) (b : ℕ) → mag (round_div z b) ≤ mag z
unfolding round_div
mag_round (pos a) b = half_le a b
mag_round (negsuc a) b = mag_neg (half_up (suc a) b) a (half_le (suc a) b)

mag_quot : (z : ℤ) (b : ℕ) → mag (quot_z z (pos b)) ≤ mag z
mag_quot (pos a) b = div-le_self a b
mag_quot (negsuc a) b = mag_neg (suc a / b) a (div-le_self (suc a) b)

-- where a number fits, so do its quotient and its R
pub quot_fits : {w : Width} {z : ℤ} (b : ℕ) → SFits w z → SFits w (quot_z z (pos b))
quot_fits {w} {z} b f = sfits_le (mag_quot z b) f

pub round_fits : {w : Width} {z : ℤ} (b : ℕ) → SFits w z → SFits w (round_div z b)
round_fits {w} {z} b f = sfits_le (mag_round z b) f

-- R of a negated number is the negated R
pub round_neg : (z : ℤ) (b : ℕ) → round_div (neg_ℤ z) b ≡ neg_ℤ (round_div z b)
unfolding round_div
round_neg (pos zero) b = ap pos (half_zero b) ∙ sym (ap (λ n. neg_ℤ (pos n)) (half_zero b))
round_neg (pos (suc a)) b = refl
round_neg (negsuc a) b = sym (neg_ℤ-neg_ℤ (pos (half_up (suc a) b)))

-- n is R(a / b) where n × b is at most half of b above a, and less than half below it
pub half_is : (a b n : ℕ) → 2 * (n * b) ≤ 2 * a + b → 2 * a + b < 2 * (n * b) + 2 * b → half_up a b ≡ n
half_is a b n low high = div-eq_of_lt-le (2 * b) (omega (arith, mul_left_comm n 2 b)) (omega (arith, mul_left_comm (n + 1) 2 b, suc-mul n b))

-- ---- R by quotient and remainder

pub half_up_lem : (a b : ℕ) → 0 < b → b ≤ 2 * (a % b) → half_up a b ≡ a / b + 1
half_up_lem a b h k =
    half_is a b (a / b + 1) (omega (arith, div-add-mod' a b, suc-mul (a / b) b)) (omega (arith, div-add-mod' a b, mod-lt a h, suc-mul (a / b) b))

pub half_stay : (a b : ℕ) → 2 * (a % b) < b → half_up a b ≡ a / b
half_stay a b k = half_is a b (a / b) (omega (arith, div-add-mod' a b)) (omega (arith, div-add-mod' a b))

-- ---- R of an exact multiple is the multiple

half_exact : (a b : ℕ) → 0 < b → half_up (a * b) b ≡ a
half_exact a b h = rw (mul_left_comm 2 a b) (digits_div a (omega arith))

pub round_exact : (z : ℤ) (b : ℕ) → 0 < b → round_div (z *ℤ pos b) b ≡ z
unfolding round_div
round_exact (pos a) b h = ap pos (half_exact a b h)
round_exact (negsuc a) b h = round_neg (pos (suc a * b)) b ∙ ap (λ n. neg_ℤ (pos n)) (half_exact (suc a) b h)

-- ---- R is within half of the exact quotient

-- at most half above it
pub half_low : (a b : ℕ) → 2 * (b * half_up a b) ≤ 2 * a + b
half_low a b = omega (arith, div-mul-le_self (2 * a + b) (2 * b), mul_left_comm (half_up a b) 2 b, mul_comm b (half_up a b))

-- less than half below it
pub half_high : (a b : ℕ) → 0 < b → 2 * a + b < 2 * (b * half_up a b) + 2 * b
half_high a b h =
    omega (arith, lt-div-mul-add {a = 2 * a + b} {b = 2 * b} (omega arith), mul_left_comm (half_up a b) 2 b, mul_comm b (half_up a b))

half_near : (a b : ℕ) → 0 < b → 2 * nat_abs (pos (b * half_up a b) -ℤ pos a) ≤ b
half_near a b h =
    let x = b * half_up a b in
    rw (minus_sub x a)
    (sub_ind x a (λ z. 2 * nat_abs z ≤ b) (λ l. omega (arith, half_high a b h)) (λ l. omega (arith, half_low a b)))

pub round_near : (z : ℤ) (b : ℕ) → 0 < b → 2 * nat_abs (pos b *ℤ round_div z b -ℤ z) ≤ b
unfolding round_div
round_near (pos a) b h = half_near a b h
round_near (negsuc a) b h =
    let x = half_up (suc a) b in
    rw (mul_neg b (pos x), minus_neg (pos (b * x)) (pos (suc a)), abs_neg (pos (b * x) -ℤ pos (suc a)))
    (half_near (suc a) b h)

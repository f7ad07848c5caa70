-- Signs, differences and products of whole numbers. What is linear goes to a difference of natural numbers, `sub_ℕ`, where omega proves it.
use mathlib.Core.Path.{◌≡◌, refl, sym, ap, ◌∙◌}
use Prim.Native.Nat.{ℕ, zero, suc, ◌+◌, ◌*◌, ◌-◌, ◌<◌, ◌≤◌}
use native.Mathlib.Nat.{zero-mul, mul-add}
use native.Mathlib.Omega.{arith}
use lib.IntN.{ℤ, pos, negsuc, neg_ℤ, nat_abs, sub_ℕ, ◌+ℤ◌, ◌-ℤ◌, ◌*ℤ◌, neg_ℤ-+ℤ, neg_ℤ-neg_ℤ, +ℤ_comm, +ℤ_assoc, +ℤ_invl}
use lib.IntN.{+ℤ_invr, +ℤ-neg_ℤ_cancel, *ℤ_comm, +ℤ_idl}
use Rattle.exact.proofs.Magnitude.{sub_ind}

-- a sum of two steps is the whole step
pub two_steps : (x y z : ℤ) → (y -ℤ x) +ℤ (z -ℤ y) ≡ z -ℤ x
two_steps x y z =
    +ℤ_comm (y -ℤ x) (z -ℤ y) ∙ +ℤ_assoc z (neg_ℤ y) (y -ℤ x)
    ∙ ap (λ w. z +ℤ w) (sym (+ℤ_assoc (neg_ℤ y) y (neg_ℤ x)) ∙ ap (λ w. w +ℤ neg_ℤ x) (+ℤ_invl y) ∙ +ℤ_idl (neg_ℤ x))

-- two sums of two, taken crosswise
pub crosswise : (a b c d : ℤ) → (a +ℤ b) +ℤ (c +ℤ d) ≡ (a +ℤ c) +ℤ (b +ℤ d)
crosswise a b c d =
    +ℤ_assoc a b (c +ℤ d)
    ∙ ap (λ z. a +ℤ z) (sym (+ℤ_assoc b c d) ∙ ap (λ z. z +ℤ d) (+ℤ_comm b c) ∙ +ℤ_assoc c b d)
    ∙ sym (+ℤ_assoc a c (b +ℤ d))

-- ---- signs

pub neg_plus_neg : (x y : ℕ) → neg_ℤ (pos x) +ℤ neg_ℤ (pos y) ≡ neg_ℤ (pos (x + y))
neg_plus_neg x y = sym (neg_ℤ-+ℤ (pos x) (pos y))

pub minus_neg : (x y : ℤ) → neg_ℤ x -ℤ neg_ℤ y ≡ neg_ℤ (x -ℤ y)
minus_neg x y = sym (neg_ℤ-+ℤ x (neg_ℤ y))

pub neg_mul : (a : ℤ) (c : ℕ) → neg_ℤ a *ℤ pos c ≡ neg_ℤ (a *ℤ pos c)
neg_mul (pos zero) c = rw (zero-mul c)
neg_mul (pos (suc a)) c = refl
neg_mul (negsuc a) c = sym (neg_ℤ-neg_ℤ (pos (suc a * c)))

pub mul_neg : (t : ℕ) (z : ℤ) → pos t *ℤ neg_ℤ z ≡ neg_ℤ (pos t *ℤ z)
mul_neg t z = *ℤ_comm (pos t) (neg_ℤ z) ∙ neg_mul z t ∙ ap neg_ℤ (*ℤ_comm z (pos t))

-- ---- differences of natural numbers

pub minus_sub : (a b : ℕ) → pos a -ℤ pos b ≡ sub_ℕ a b
minus_sub a zero = sub_ind a 0 (λ z. pos (a + 0) ≡ z) (λ h. absurd (omega arith)) (λ h. ap pos (omega arith))
minus_sub a (suc b) = refl

pub sub_minus : (a b c : ℕ) → sub_ℕ a b -ℤ pos c ≡ sub_ℕ a (b + c)
sub_minus a b c =
    rw (← minus_sub a b, +ℤ_assoc (pos a) (neg_ℤ (pos b)) (neg_ℤ (pos c)), neg_plus_neg b c) (minus_sub a (b + c))

pub mul_sub : (t a b : ℕ) → pos t *ℤ sub_ℕ a b ≡ sub_ℕ (t * a) (t * b)
mul_sub t a b = sub_ind a b (λ z. pos t *ℤ z ≡ sub_ℕ (t * a) (t * b)) low high
  where
    low : a < b → neg_ℤ (pos (t * suc (b - suc a))) ≡ sub_ℕ (t * a) (t * b)
    low h =
        let k = suc (b - suc a) in
        let e : t * b ≡ t * a + t * k = ap (λ n. t * n) (omega arith) ∙ mul-add t a k in
        rw (
          ← minus_sub (t * a) (t * b),
          e,
          ← neg_plus_neg (t * a) (t * k),
          ← +ℤ_assoc (pos (t * a)) (neg_ℤ (pos (t * a))) (neg_ℤ (pos (t * k))),
          +ℤ_invr (pos (t * a)),
        ) (sym (+ℤ_idl (neg_ℤ (pos (t * k)))))

    high : b ≤ a → pos (t * (a - b)) ≡ sub_ℕ (t * a) (t * b)
    high h =
        let e : t * a ≡ t * (a - b) + t * b = ap (λ n. t * n) (omega arith) ∙ mul-add t (a - b) b in
        rw (← minus_sub (t * a) (t * b), e) (sym (+ℤ-neg_ℤ_cancel (pos (t * (a - b))) (pos (t * b))))

pub abs_sub_lt : (a b t : ℕ) → a < b + t → b < a + t → nat_abs (sub_ℕ a b) < t
abs_sub_lt a b t h k = sub_ind a b (λ z. nat_abs z < t) (λ l. omega arith) (λ l. omega arith)

-- Every share has the sign of the amount: none is below 0 where the amount is not, and none above 0.
use Prim.Native.Nat.{ℕ, zero, suc, ◌+◌, ◌*◌, ◌-◌, ◌≤◌, zero-le}
use mathlib.Core.Bool.{false}
use mathlib.Core.List.{List, [], ◌∷◌}
use mathlib.Core.Path.{◌≡◌, refl, ap, ◌∙◌}
use native.Mathlib.Nat.{mul-zero, div-zero, le_of_suc-le-suc, div-lt_iff_lt-mul, suc-mul, mul_left_comm, mul_comm, mul-add}
use native.Mathlib.Omega.{arith}
use borrow.Author.Tests.{le-ltb, ltb-false}
use lib.IntN.{ℤ, pos, negsuc, neg_ℤ, ◌-ℤ◌, zero-*ℤ}
use lib.ListN.{get_or}
use lib.Signed.{lt_z}
use Rattle.exact.specs.Round.{round_div, half_up}
use Rattle.exact.specs.Total.{total}
use Rattle.exact.proofs.Magnitude.{sub_ind}
use Rattle.exact.proofs.Difference.{minus_sub}
use Rattle.exact.proofs.Round.{half_high, round_zero}
use Rattle.shares.specs.Shares.{up_to, shares_from, shares, SameSign}
use Rattle.shares.proofs.Turned.{step_neg}

-- more is not rounded to less
half_rises : (a b t : ℕ) → a ≤ b → half_up a t ≤ half_up b t
half_rises a b zero h = rw (mul-zero 2, div-zero, div-zero) zero-le
half_rises a b (suc t) h =
    let m = half_up b (suc t) in
    le_of_suc-le-suc
    ((div-lt_iff_lt-mul {y = suc m} (omega arith)).1
    (omega (arith, half_high b (suc t) (omega arith), suc-mul m (2 * suc t), mul_left_comm m 2 (suc t), mul_comm (suc t) m)))

-- the step from one running demand to the next, of an amount that is not below 0
step_is : (a t c d : ℕ) → up_to (pos a) t (c + d) -ℤ up_to (pos a) t c ≡ pos (half_up (a * (c + d)) t - half_up (a * c) t)
unfolding round_div
step_is a t c d =
    let x = half_up (a * (c + d)) t in
    let y = half_up (a * c) t in
    let rises = half_rises (a * c) (a * (c + d)) t (omega (arith, mul-add a c d)) in
    minus_sub x y ∙ sub_ind x y (λ z. z ≡ pos (x - y)) (λ low. absurd (omega arith)) (λ high. refl)

not_below_pos : (n : ℕ) → lt_z (pos n) (pos 0) ≡ false
not_below_pos n = le-ltb n 0 zero-le

not_above_neg : (n : ℕ) → lt_z (pos 0) (neg_ℤ (pos n)) ≡ false
not_above_neg zero = refl
not_above_neg (suc n) = refl

nothing_moved : (t c d : ℕ) → up_to (pos 0) t (c + d) -ℤ up_to (pos 0) t c ≡ pos 0
nothing_moved t c d = rw (zero-*ℤ (pos (c + d)), zero-*ℤ (pos c), round_zero t)

step_sign : (amount : ℤ) (t c d : ℕ) → SameSign amount (up_to amount t (c + d) -ℤ up_to amount t c)
step_sign (pos zero) t c d =
    record {
      not_below = λ _. ap (λ z. lt_z z (pos 0)) (nothing_moved t c d);
      not_above = λ _. ap (λ z. lt_z (pos 0) z) (nothing_moved t c d);
    }
step_sign (pos (suc a)) t c d =
    record {
      not_below = λ _. ap (λ z. lt_z z (pos 0)) (step_is (suc a) t c d) ∙ not_below_pos (half_up (suc a * (c + d)) t - half_up (suc a * c) t);
      not_above = λ e. absurd (omega (arith, ltb-false 0 (suc a) e));
    }
step_sign (negsuc a) t c d =
    record {
      not_below = λ e. let z : ◌≡◌ {A = ℕ} 0 1 = cc in absurd (omega arith);
      not_above = λ _. ap (λ z. lt_z (pos 0) z) (step_neg (pos (suc a)) t (c + d) c ∙ ap neg_ℤ (step_is (suc a) t c d))
          ∙ not_above_neg (half_up (suc a * (c + d)) t - half_up (suc a * c) t);
    }

from_sign : (amount : ℤ) (t c : ℕ) (ds : List ℕ) (i : ℕ) → SameSign amount (get_or (shares_from amount t c ds) i (pos 0))
unfolding shares_from
from_sign amount t c [] i = record { not_below = λ _. refl; not_above = λ _. refl }
from_sign amount t c (d ∷ ds) zero = step_sign amount t c d
from_sign amount t c (d ∷ ds) (suc i) = from_sign amount t (c + d) ds i

pub same_sign : (amount : ℤ) (demands : List ℕ) (i : ℕ) → SameSign amount (get_or (shares amount demands) i (pos 0))
unfolding shares
same_sign amount demands i = from_sign amount (total demands) 0 demands i

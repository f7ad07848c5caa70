-- S and the credit, each rounded on its own: what they leave is within a cent of the on-peak amount, which is rounded once, and where they are 0.
use Prim.Native.Nat.{ℕ, suc, ◌+◌, ◌-◌, ◌≤◌, ◌<◌, zero-le}
use mathlib.Core.Bool.{Bool, true, false}
use mathlib.Core.Path.{◌≡◌, refl}
use native.Mathlib.Omega.{arith}
use borrow.Author.Tests.{le-leb, ne_eqb}
use lib.Dec.{leb}
use lib.IntN.{ℤ, pos, negsuc, nat_abs, ◌-ℤ◌, ◌*ℤ◌, neg_ℤ-neg_ℤ}
use Rattle.exact.specs.Round.{half_up, round_div}
use Rattle.exact.specs.Floor.{at_least_zero}
use Rattle.exact.proofs.Magnitude.{sub_ind}
use Rattle.exact.proofs.Difference.{minus_sub, abs_sub_lt}
use Rattle.exact.proofs.Round.{round_zero}
use Rattle.surcharge.specs.declared.Terms.{Terms}
use Rattle.surcharge.specs.Surcharge.{scaled_multiplier, surcharge_of, credit_of, on_peak_of, surcharge_in_cents, credit_in_cents}

abbrev cents : ℕ → ℕ
cents a = half_up a 400000

-- an amount and what S and a credit leave are at most a cent apart
abbrev Near : (amount s credit : ℤ) → Type 0
Near amount s credit = nat_abs (amount -ℤ at_least_zero (s -ℤ credit)) ≤ 1

apart : (a b : ℕ) → a < b + 2 → b < a + 2 → nat_abs (pos a -ℤ pos b) ≤ 1
apart a b h k = rw (minus_sub a b) (omega (arith, abs_sub_lt a b 2 h k))

-- a credit of 0 or more
module _ (a e : ℕ) where
  less : (w : ℕ) → w < cents a - cents e + 2 → cents a < w + cents e + 2 → Near (pos w) (pos (cents a)) (pos (cents e))
  unfolding at_least_zero
  less w low high =
      rw (minus_sub (cents a) (cents e))
      (sub_ind (cents a) (cents e) (λ z. nat_abs (pos w -ℤ at_least_zero z) ≤ 1) (λ l. apart w 0 (omega arith) (omega arith))
      (λ l. apart w (cents a - cents e) (omega arith) (omega arith)))

  credited : Near (round_div (at_least_zero (pos a -ℤ pos e)) 400000) (pos (cents a)) (pos (cents e))
  unfolding round_div at_least_zero
  credited =
      rw (minus_sub a e)
      (sub_ind a e (λ z. Near (round_div (at_least_zero z) 400000) (pos (cents a)) (pos (cents e))) (λ l. less (cents 0) (omega arith) (omega arith))
      (λ l. less (cents (a - e)) (omega arith) (omega arith)))

-- one below 0 adds to S
added : (a e : ℕ) → Near (round_div (at_least_zero (pos a -ℤ negsuc e)) 400000) (pos (cents a)) (round_div (negsuc e) 400000)
unfolding round_div at_least_zero
added a e = rw (neg_ℤ-neg_ℤ (pos (cents (suc e)))) (apart (cents (a + suc e)) (cents a + cents (suc e)) (omega arith) (omega arith))

rounded_two : (s c : ℤ) → Near (round_div (at_least_zero (at_least_zero s -ℤ c)) 400000) (round_div (at_least_zero s) 400000) (round_div c 400000)
unfolding round_div at_least_zero
rounded_two (pos a) (pos e) = credited a e
rounded_two (pos a) (negsuc e) = added a e
rounded_two (negsuc a) (pos e) = credited 0 e
rounded_two (negsuc a) (negsuc e) = added 0 e

pub on_peak_near : (terms : Terms) (most : ℕ) (hub : ℤ) (day_tier tier : ℕ) (price : ℤ)
    → let s = surcharge_of terms most hub day_tier in
    Near (on_peak_of s most day_tier tier price) (surcharge_in_cents s day_tier) (credit_in_cents most day_tier tier price)
unfolding on_peak_of surcharge_in_cents credit_in_cents surcharge_of at_least_zero
on_peak_near terms most hub day_tier tier price = by (leb day_tier 1) refl
  where
    by : (t : Bool) → leb day_tier 1 ≡ t
        → let s = surcharge_of terms most hub day_tier in
        Near (on_peak_of s most day_tier tier price) (surcharge_in_cents s day_tier) (credit_in_cents most day_tier tier price)
    by true e = rw e zero-le
    by false e = rw e (rounded_two ((pos most *ℤ hub) *ℤ pos (scaled_multiplier terms day_tier)) (credit_of most tier price))

-- on a day of tier 0 or 1
pub none_in_cents : (s : ℤ) (most day_tier tier : ℕ) (price : ℤ) → day_tier ≤ 1
    → (surcharge_in_cents s day_tier ≡ pos 0) × (credit_in_cents most day_tier tier price ≡ pos 0)
unfolding surcharge_in_cents credit_in_cents
none_in_cents s most day_tier tier price p = rw (le-leb day_tier 1 p) (refl, refl)

-- in a failed hour
pub no_credit_in_cents : (most day_tier tier : ℕ) (price : ℤ) → (tier ≡ 0 → ⊥) → credit_in_cents most day_tier tier price ≡ pos 0
unfolding credit_in_cents credit_of
no_credit_in_cents most day_tier tier price p = by (leb day_tier 1) refl
  where
    by : (t : Bool) → leb day_tier 1 ≡ t → credit_in_cents most day_tier tier price ≡ pos 0
    by true e = rw e
    by false e = rw (e, ne_eqb tier 0 p) (round_zero 400000)

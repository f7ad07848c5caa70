-- How large the numbers of an amount get, for numbers that the check accepts.
use Prim.Native.Nat.{ℕ, ◌+◌, ◌*◌, ◌≤◌, zero-le}
use mathlib.Core.Bool.{Bool, true, false, cond}
use native.Mathlib.Nat.{le_trans, mul-le-mul}
use native.Mathlib.Omega.{arith}
use lib.Dec.{eqb, leb}
use lib.IntN.{ℤ, pos, nat_abs, ◌-ℤ◌, ◌*ℤ◌}
use Rattle.exact.specs.Floor.{at_least_zero, at_most_zero}
use Rattle.exact.proofs.Magnitude.{abs_minus, abs_mul≤}
use Rattle.exact.proofs.Floor.{abs_at_least, abs_at_most}
use Rattle.exact.proofs.Round.{round_within}
use Rattle.limits.specs.Ranges.{most_market_price, most_hub_price, most_days, most_upward, most_downward}
use Rattle.surcharge.specs.declared.Terms.{Terms}
use Rattle.surcharge.specs.Ranges.{TermsKept, most_multiplier, most_surcharge}
use Rattle.surcharge.specs.Surcharge.{downward_floor, quarters, scaled_multiplier, surcharge_of, credit_of, on_peak_of, off_peak_of, downward_of}
use Rattle.surcharge.specs.Surcharge.{surcharge_in_cents, credit_in_cents}

-- what each amount comes to at most, in cents
abbrev pub most_on_peak_amount : ℕ
most_on_peak_amount = 7200000000

abbrev pub most_off_peak_amount : ℕ
most_off_peak_amount = 5200000000

abbrev pub most_downward_amount : ℕ
most_downward_amount = 1000000000

pub pick : (m : ℕ) (t : Bool) (a b : ℤ) → nat_abs a ≤ m → nat_abs b ≤ m → nat_abs (cond t a b) ≤ m
pick m true a b h k = h
pick m false a b h k = k

quarters_by : (t : Bool) → cond t 5 8 ≤ 8
quarters_by true = omega arith
quarters_by false = omega arith

quarters_small : (tier : ℕ) → quarters tier ≤ 8
quarters_small tier = quarters_by (eqb tier 2)

-- a quantity at a market price, times a multiplier
pub at_market_small : (m quantity : ℕ) (price multiplier : ℤ) → quantity ≤ most_upward → nat_abs price ≤ most_market_price → nat_abs multiplier ≤ m
    → nat_abs ((pos quantity *ℤ price) *ℤ multiplier) ≤ most_upward * most_market_price * m
at_market_small m quantity price multiplier q p h =
    abs_mul≤ (most_upward * most_market_price) m (pos quantity *ℤ price) multiplier (abs_mul≤ most_upward most_market_price (pos quantity) price q p) h

module _ (terms : Terms) (kept : TermsKept terms) where
  pub multiplier_small : (tier : ℕ) → scaled_multiplier terms tier ≤ most_multiplier
  multiplier_small tier =
      let p : 100 + terms.days ≤ 100 + most_days = omega (arith, kept.days) in
      mul-le-mul (quarters_small tier) p

  module _ (upward : ℕ) (upward_small : upward ≤ most_upward) (tier : ℕ) (price : ℤ) (price-small : nat_abs price ≤ most_market_price) where
    -- U × price × m × (1 + d/100)
    pub scaled_small : nat_abs ((pos upward *ℤ price) *ℤ pos (scaled_multiplier terms tier)) ≤ most_upward * most_market_price * most_multiplier
    scaled_small = at_market_small most_multiplier upward price (pos (scaled_multiplier terms tier)) upward_small price-small (multiplier_small tier)

    pub off_peak_small : nat_abs (off_peak_of terms upward tier price) ≤ most_off_peak_amount
    unfolding off_peak_of
    off_peak_small =
        pick most_off_peak_amount (leb tier 1) _ _ zero-le
        (round_within most_off_peak_amount _ 40000000 (omega arith)
        (omega (arith, abs_at_least ((pos upward *ℤ price) *ℤ pos (scaled_multiplier terms tier)), scaled_small)))

  module _ (most : ℕ) (most_small : most ≤ most_upward) (hub : ℤ) (hub_small : nat_abs hub ≤ most_hub_price) (tier : ℕ) where
    -- M × P × m × (1 + d/100), and S
    pub product_small : nat_abs ((pos most *ℤ hub) *ℤ pos (scaled_multiplier terms tier)) ≤ most_surcharge
    product_small =
        abs_mul≤ (most_upward * most_hub_price) most_multiplier (pos most *ℤ hub) (pos (scaled_multiplier terms tier))
        (abs_mul≤ most_upward most_hub_price (pos most) hub most_small hub_small) (multiplier_small tier)

    pub surcharge_small : nat_abs (surcharge_of terms most hub tier) ≤ most_surcharge
    unfolding surcharge_of
    surcharge_small = le_trans (abs_at_least _) product_small

pub surcharge_in_cents_small : (s : ℤ) (day_tier : ℕ) → nat_abs s ≤ most_surcharge → nat_abs (surcharge_in_cents s day_tier) ≤ most_on_peak_amount
unfolding surcharge_in_cents
surcharge_in_cents_small s day_tier h =
    pick most_on_peak_amount (leb day_tier 1) _ _ zero-le (round_within most_on_peak_amount s 400000 (omega arith) (omega arith))

module _ (most : ℕ) (most_small : most ≤ most_upward) (tier : ℕ) (price : ℤ) (price-small : nat_abs price ≤ most_market_price) where
  credit-small : nat_abs (credit_of most tier price) ≤ most_upward * most_market_price * 4
  unfolding credit_of
  credit-small =
      pick (most_upward * most_market_price * 4) (eqb tier 0) _ _ (at_market_small 4 most price (pos 4) most_small price-small (omega arith)) zero-le

  pub credit_in_cents_small : (day_tier : ℕ) → nat_abs (credit_in_cents most day_tier tier price) ≤ most_on_peak_amount
  unfolding credit_in_cents
  credit_in_cents_small day_tier =
      pick most_on_peak_amount (leb day_tier 1) _ _ zero-le (round_within most_on_peak_amount _ 400000 (omega arith) (omega (arith, credit-small)))

  module _ (s : ℤ) (s-small : nat_abs s ≤ most_surcharge) where
    -- S less the credit
    pub difference_small : nat_abs (s -ℤ credit_of most tier price) ≤ most_on_peak_amount * 400000
    difference_small = omega (arith, abs_minus s (credit_of most tier price), credit-small)

    pub on_peak_small : (day_tier : ℕ) → nat_abs (on_peak_of s most day_tier tier price) ≤ most_on_peak_amount
    unfolding on_peak_of
    on_peak_small day_tier =
        let z = s -ℤ credit_of most tier price in
        pick most_on_peak_amount (leb day_tier 1) _ _ zero-le
        (round_within most_on_peak_amount (at_least_zero z) 400000 (omega arith) (omega (arith, abs_at_least z, difference_small)))

pub downward_small : (terms : Terms) (downward : ℕ) (mec : ℤ) → downward ≤ most_downward → nat_abs mec ≤ most_market_price
    → nat_abs (downward_of terms downward mec) ≤ most_downward_amount
unfolding downward_of
downward_small terms downward mec w m =
    let z = pos downward *ℤ mec in
    pick most_downward_amount (leb downward downward_floor) _ _ zero-le
    (round_within most_downward_amount (at_most_zero z) 100000 (omega arith) (omega (arith, abs_at_most z, abs_mul≤ most_downward most_market_price (pos downward) mec w m)))

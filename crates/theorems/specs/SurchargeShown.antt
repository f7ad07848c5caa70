-- What the S and the credit that an hour shows say of its on-peak amount.
use Rattle.std.specs.Prelude.{ℕ, ◌≤◌, false, List, ◌⊎◌, ◌≡◌, ℤ, pos, nat_abs, ◌-ℤ◌}
use Rattle.exact.specs.Floor.{at_least_zero}
use Rattle.body.specs.Layout.{flag_of}
use Rattle.contents.specs.File.{body_at}
use Rattle.surcharge.specs.Surcharge.{peak_hour}
use Rattle.amounts.specs.Amounts.{tier_at, day_tier}
use Rattle.settlement.specs.Settlement.{terms_by}
use Rattle.settlement.specs.Shown.{on_peak_shown, surcharge_shown, credit_shown}

-- hour h of area k
pub record SurchargeShown (d : ℕ → List ℕ → ℕ) (file : List ℕ) (left : List ℤ) (k h : ℕ) : Type 0 where
  -- the amount and max(0, S shown - credit shown) differ by at most one cent: in a peak hour of a day of tier 2 or 3, flag 1, and in every other hour too
  pub near : nat_abs (on_peak_shown file k h left -ℤ at_least_zero (surcharge_shown file k h left -ℤ credit_shown file k h left)) ≤ 1
  -- "both are 0 outside peak hours, on a day of tier 0 or 1, and with flag 0"
  pub nothing : (peak_hour (terms_by d file k) h ≡ false) ⊎ ((day_tier (terms_by d file k) (body_at file k) ≤ 1) ⊎ (flag_of (body_at file k) ≡ 1 → ⊥))
      → (surcharge_shown file k h left ≡ pos 0) × (credit_shown file k h left ≡ pos 0)
  -- an hour that is not of tier 0 has no credit
  pub failed : (tier_at (body_at file k) h ≡ 0 → ⊥) → credit_shown file k h left ≡ pos 0

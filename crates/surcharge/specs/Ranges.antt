-- The terms and the facts of a day are in range.
use Rattle.std.specs.Prelude.{ℕ, ◌+◌, ◌*◌, ◌≤◌, nat_abs}
use Rattle.limits.specs.Ranges.{most_days, most_upward, most_hub_price}
use Rattle.surcharge.specs.declared.Day.{Day}
use Rattle.surcharge.specs.declared.Terms.{Terms}

pub record TermsKept (terms : Terms) : Type 0 where
  pub days : terms.days ≤ most_days

-- m × (1 + d/100) at most, in four-hundredths, and S at most, over 400,000
abbrev pub most_multiplier : ℕ
most_multiplier = 8 * (100 + most_days)

abbrev pub most_surcharge : ℕ
most_surcharge = most_upward * most_hub_price * most_multiplier

pub record DayRanged (day : Day) : Type 0 where
  pub most : day.most.0 ≤ most_upward
  pub surcharge : nat_abs day.surcharge.0 ≤ most_surcharge

-- An amount on its way through the running demands.
use Rattle.std.specs.Prelude.{ℕ, ◌+◌, ◌*◌, ◌^◌, ◌<◌, ◌≤◌, ◌≡◌, nat_abs, IfSome}
use Rattle.limits.specs.Ranges.{most_demand}
use Rattle.shares.specs.declared.Carried.{Carried}
use Rattle.shares.specs.Shares.{up_to}
use Rattle.shares.specs.Rates.{rates_of}

-- the rates, where there are any, and the rounding are those of the amount
pub record Begun (s : Carried) : Type 0 where
  pub rates : IfSome s.rates (λ rates. rates ≡ rates_of s.amount s.whole)
  pub few : s.whole ≤ most_demand
  pub small : nat_abs s.amount * s.whole < 2 ^ 63
  pub carried : s.before ≡ up_to s.amount s.whole s.running

-- one demand further
abbrev pub carried_on : Carried → ℕ → Carried
carried_on s demand =
    record {
      amount = s.amount;
      whole = s.whole;
      rates = s.rates;
      running = s.running + demand;
      before = up_to s.amount s.whole (s.running + demand);
    }

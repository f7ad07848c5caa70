-- What the amounts of an hour rest on, of which the statement shows nothing (docs/EXPLAIN.md).
use Rattle.std.specs.Prelude.{ℕ, cond, List, Option, Some, None, Ok, Err, leb}
use Rattle.body.specs.Layout.{requirement_at}
use Rattle.price.specs.Price.{PriceAnswer, answer_count}
use Rattle.surcharge.specs.declared.Terms.{Terms}
use Rattle.surcharge.specs.Surcharge.{peak_hour, quarters}
use Rattle.amounts.specs.Amounts.{upward_at, tier_at, day_tier, price_needed}
use Rattle.explaining.specs.declared.Shortage.{Shortage}
use Rattle.explaining.specs.declared.HourPrice.{HourPrice}
use Rattle.units.specs.declared.MarketPrice.{MarketPrice}

-- m of a tier in quarters; 0 under tier 0 and 1, where nothing is multiplied
abbrev pub multiplier_of : ℕ → ℕ
multiplier_of tier = cond (leb tier 1) 0 (quarters tier)

-- the tier that the hour's amount goes by: "m 1.25 for day tier 2 and 2 for day tier 3"; off-peak "with the hour's own tier"
abbrev pub tier_taken : Terms → List ℕ → ℕ → ℕ
tier_taken terms body h = cond (peak_hour terms h) (day_tier terms body) (tier_at body h)

unfoldable pub shortage_at : Terms → List ℕ → ℕ → Shortage
shortage_at terms body h =
    record {
      upward = record { 0 = upward_at body h };
      requirement = record { 0 = requirement_at body h };
      tier = tier_at body h;
      peak = peak_hour terms h;
      needed = price_needed terms body h;
      quarters = multiplier_of (tier_taken terms body h);
    }

-- an answer of the price call: the price, where it is one, and the count
abbrev pub price_in : PriceAnswer → Option MarketPrice
price_in (Ok priced) = Some priced.price
price_in (Err refusal) = None

abbrev pub priced_of : PriceAnswer → HourPrice
priced_of answer = record { price = price_in answer; count = answer_count answer }

-- The numbers of the first n intervals are in range.
use Rattle.std.specs.Prelude.{ℕ, ◌<◌, List}
use Rattle.hour.specs.Kept.{QuantityKept, PriceKept}
use Rattle.price.specs.Price.{quantity_of, price_of}

pub record Ranged (pairs : List ℕ) (n : ℕ) : Type 0 where
  pub quantity : (i : ℕ) → i < n → QuantityKept (quantity_of pairs i)
  pub price : (i : ℕ) → i < n → PriceKept (price_of pairs i)

-- What an average is built up from without a branch: sums in which each price stands 2^31 higher, as a word. It is then
-- never below 0, and a missing price is 0.
use Rattle.std.specs.Prelude.{ℕ, ◌+◌, ◌*◌, ◌%◌, cond, pos, ◌-ℤ◌}
use Rattle.limits.specs.Ranges.{missing_price}
use Rattle.hour.specs.Layout.{missing}
use Rattle.price.specs.declared.Average.{Average}
use Rattle.price.specs.declared.Sums.{Sums}

abbrev pub empty_sums : Sums
empty_sums = record { value = record { 0 = 0 }; quantity = record { 0 = 0 }; count = 0 }

-- a price, 2^31 higher
abbrev pub raised : ℕ → ℕ
raised price = (price + missing_price) % 4294967296

-- with an interval more; a missing price adds nothing
unfoldable pub with_raised : Sums → ℕ → ℕ → Sums
with_raised sums quantity price =
    record {
      value = record { 0 = sums.value.0 + quantity * raised price };
      quantity = record { 0 = sums.quantity.0 + cond (missing price) 0 quantity };
      count = sums.count + cond (missing price) 0 1;
    }

-- the average: 2^31 for each of the quantity is taken off again
unfoldable pub average_from : Sums → Average
average_from sums =
    record {
      value = record { 0 = pos sums.value.0 -ℤ pos (2147483648 * sums.quantity.0) };
      quantity = sums.quantity;
      count = sums.count;
    }

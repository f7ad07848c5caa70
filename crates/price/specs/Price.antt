-- The load-weighted price of an hour (docs/RULES.md, section 7): "sum of quantity × price over intervals whose price is present, over the sum of the same
-- quantities, then R to $0.0001. A missing interval's quantity is left out too." With it goes the count of those intervals. An hour's intervals are pairs of
-- words, quantity and price.
use Rattle.std.specs.Prelude.{ℕ, zero, suc, ◌+◌, ◌*◌, ◌/◌, ◌%◌, Bool, cond, ◌&&◌, List, length, Result, Ok, Err, ℤ, pos, ◌+ℤ◌, ◌*ℤ◌, ◌==◌, nat_le}
use Rattle.exact.specs.Round.{round_div}
use Rattle.words.specs.Word.{word_at, signed_of}
use Rattle.verdict.specs.Verdict.{number_of, place_of}
use Rattle.limits.specs.Editions.{most_points}
use Rattle.hour.specs.Layout.{missing}
use Rattle.hour.specs.Check.{intervals_rule}
use Rattle.price.specs.declared.Average.{Average}
use Rattle.price.specs.declared.Priced.{Priced}
use Rattle.price.specs.declared.PriceRefusal.{PriceRefusal}
use Rattle.price.specs.declared.PriceRefusal.TheVariants.{BadLength, OutOfRange, NoQuantity}

-- a price with its count of intervals, or why there is none
abbrev pub PriceAnswer : Type 0
PriceAnswer = Result Priced PriceRefusal

-- ---- the average, built up one interval at a time

-- the empty one
abbrev pub empty_average : Average
empty_average = record { value = record { 0 = pos 0 }; quantity = record { 0 = 0 }; count = 0 }

-- with an interval more; a missing price leaves its quantity out too
unfoldable pub with_interval : Average → ℕ → ℕ → Average
with_interval average quantity price =
    cond (missing price) average
    (record {
      value = record { 0 = average.value.0 +ℤ pos quantity *ℤ signed_of price };
      quantity = record { 0 = average.quantity.0 + quantity };
      count = average.count + 1;
    })

module _ (pairs : List ℕ) where
  abbrev pub quantity_of : ℕ → ℕ
  quantity_of i = word_at pairs (2 * i)

  abbrev pub price_of : ℕ → ℕ
  price_of i = word_at pairs (2 * i + 1)

  -- of the first n intervals
  unfoldable pub average_of : ℕ → Average
  average_of zero = empty_average
  average_of (suc n) = with_interval (average_of n) (quantity_of n) (price_of n)

-- one rounding, at the end; no quantity under the price is refusal 11; both "with the count of intervals whose price was present"
unfoldable pub answer_of : Average → PriceAnswer
answer_of average =
    cond (average.quantity.0 == 0)
    (Err (NoQuantity average.count))
    (Ok (record { price = record { 0 = round_div average.value.0 average.quantity.0 }; count = average.count }))

-- the price of so many intervals whose numbers are in range
abbrev pub average_price : List ℕ → ℕ → PriceAnswer
average_price pairs n = answer_of (average_of pairs n)

-- ---- the call

-- 12 pairs for each load point, one to `most`
abbrev pub length_known : ℕ → ℕ → Bool
length_known most bytes = bytes % 96 == 0 && nat_le 96 bytes && nat_le bytes (96 * most)

-- 1 for another length, then 9 with the number of the first bad pair, half of the place of its bad word, then 11
unfoldable pub load_weighted_within : ℕ → List ℕ → PriceAnswer
load_weighted_within most pairs =
    cond (length_known most (length pairs))
    (cond (number_of (intervals_rule 0 pairs 0 (length pairs / 8)) == 0)
    (average_price pairs (length pairs / 8))
    (Err (OutOfRange (place_of (intervals_rule 0 pairs 0 (length pairs / 8)) / 2))))
    (Err BadLength)

unfoldable pub load_weighted : List ℕ → PriceAnswer
load_weighted pairs = load_weighted_within most_points pairs

-- ---- the paper's number, place and price of each answer: "a refusal returns price 0, and places for 1 and 11 are 0"

abbrev pub answer_number : PriceAnswer → ℕ
answer_number (Ok priced) = 0
answer_number (Err BadLength) = 1
answer_number (Err (OutOfRange pair)) = 9
answer_number (Err (NoQuantity count)) = 11

abbrev pub answer_place : PriceAnswer → ℕ
answer_place (Ok priced) = 0
answer_place (Err BadLength) = 0
answer_place (Err (OutOfRange pair)) = pair
answer_place (Err (NoQuantity count)) = 0

abbrev pub answer_price : PriceAnswer → ℤ
answer_price (Ok priced) = priced.price.0
answer_price (Err BadLength) = pos 0
answer_price (Err (OutOfRange pair)) = pos 0
answer_price (Err (NoQuantity count)) = pos 0

-- "(0 on a refusal for length or range)"
abbrev pub answer_count : PriceAnswer → ℕ
answer_count (Ok priced) = priced.count
answer_count (Err BadLength) = 0
answer_count (Err (OutOfRange pair)) = 0
answer_count (Err (NoQuantity count)) = count

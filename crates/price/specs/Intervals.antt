-- Intervals as a list of pairs, quantity and price, for the law that missing prices do not count.
use Rattle.std.specs.Prelude.{ℕ, zero, suc, cond, List, [], ◌∷◌, ◌++◌}
use Rattle.hour.specs.Layout.{missing}
use Rattle.price.specs.declared.Average.{Average}
use Rattle.price.specs.Price.{with_interval, quantity_of, price_of}

-- an average with each of some intervals more, in their order
unfoldable pub average_over : Average → List (ℕ × ℕ) → Average
average_over average [] = average
average_over average (interval ∷ rest) = average_over (with_interval average interval.0 interval.1) rest

-- those of some intervals whose price is present
unfoldable pub present : List (ℕ × ℕ) → List (ℕ × ℕ)
present [] = []
present (interval ∷ rest) = cond (missing interval.1) (present rest) (interval ∷ present rest)

-- the first n intervals of an hour's pairs
unfoldable pub first_intervals : List ℕ → ℕ → List (ℕ × ℕ)
first_intervals pairs zero = []
first_intervals pairs (suc n) = first_intervals pairs n ++ ((quantity_of pairs n, price_of pairs n) ∷ [])

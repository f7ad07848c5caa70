-- The count of an average: how many of its intervals have a price. A missing price never counts, whatever its quantity.
use Rattle.std.proofs.Common.{◌≡◌, ℕ, ◌+◌, ◌/◌, Bool, true, false, eqb, List, [], ◌∷◌, length, sym, refl, ap, ◌∙◌, add-zero, zero-add, arith}
use Rattle.verdict.specs.Verdict.{number_of}
use Rattle.limits.specs.Editions.{most_points}
use Rattle.hour.specs.Layout.{missing}
use Rattle.hour.specs.Check.{intervals_rule}
use Rattle.price.specs.declared.Average.{Average}
use Rattle.price.specs.Price.{empty_average, with_interval, average_of, answer_of, average_price, answer_number, answer_count, length_known}
use Rattle.price.specs.Price.{load_weighted_within, load_weighted}
use Rattle.price.specs.Intervals.{average_over, present, first_intervals}
use Rattle.price.proofs.MissingPrices.{missing_changes_nothing, as_list}

pub missing_never_counts : (average : Average) (quantity price : ℕ) → missing price ≡ true → (with_interval average quantity price).count
    ≡ average.count
missing_never_counts average quantity price e = ap (λ a. a.count) (missing_changes_nothing average quantity price e)

pub present_counts : (average : Average) (quantity price : ℕ) → missing price ≡ false → (with_interval average quantity price).count
    ≡ average.count + 1
unfolding with_interval
present_counts average quantity price e = rw e

-- one interval at the front, present or not
count_one : (average : Average) (interval : ℕ × ℕ) (rest : List (ℕ × ℕ)) (t : Bool) → missing interval.1 ≡ t
    → ((a : Average) → (average_over a rest).count ≡ a.count + length (present rest))
    → (average_over average (interval ∷ rest)).count ≡ average.count + length (present (interval ∷ rest))
unfolding average_over present
count_one average interval rest true e counted =
    rw e (counted _ ∙ ap (λ c. c + length (present rest)) (missing_never_counts average interval.0 interval.1 e))
count_one average interval rest false e counted =
    rw e (omega (arith, counted (with_interval average interval.0 interval.1), present_counts average interval.0 interval.1 e))

count_over : (intervals : List (ℕ × ℕ)) (average : Average) → (average_over average intervals).count ≡ average.count + length (present intervals)
unfolding average_over present
count_over [] average = sym (add-zero average.count)
count_over (interval ∷ rest) average = count_one average interval rest (missing interval.1) refl (count_over rest)

-- the count is the length of the list of present intervals
pub count_is : (pairs : List ℕ) (n : ℕ) → (average_of pairs n).count ≡ length (present (first_intervals pairs n))
count_is pairs n = ap (λ a. a.count) (as_list pairs n) ∙ count_over (first_intervals pairs n) empty_average ∙ zero-add _

-- with a price and under 11 alike
answer_count_lem : (t : Bool) (average : Average) → eqb average.quantity.0 0 ≡ t → answer_count (answer_of average) ≡ average.count
unfolding answer_of
answer_count_lem true average e = rw e
answer_count_lem false average e = rw e

pub seen : (pairs : List ℕ) (n : ℕ) → answer_count (average_price pairs n) ≡ length (present (first_intervals pairs n))
seen pairs n = answer_count_lem (eqb (average_of pairs n).quantity.0 0) (average_of pairs n) refl ∙ count_is pairs n

-- of the call, refused neither for length nor for range
pub seen_by_call : (pairs : List ℕ) → (answer_number (load_weighted pairs) ≡ 1 → ⊥) → (answer_number (load_weighted pairs) ≡ 9 → ⊥)
    → answer_count (load_weighted pairs) ≡ length (present (first_intervals pairs (length pairs / 8)))
unfolding load_weighted load_weighted_within
seen_by_call pairs =
    by (length_known most_points (length pairs)) (eqb (number_of (intervals_rule 0 pairs 0 (length pairs / 8))) 0) refl refl
  where
    by : (known ranged : Bool) → length_known most_points (length pairs) ≡ known → eqb (number_of (intervals_rule 0 pairs 0 (length pairs / 8))) 0 ≡ ranged
        → (answer_number (load_weighted pairs) ≡ 1 → ⊥) → (answer_number (load_weighted pairs) ≡ 9 → ⊥)
        → answer_count (load_weighted pairs) ≡ length (present (first_intervals pairs (length pairs / 8)))
    by false ranged k r one nine = absurd (one (rw k))
    by true false k r one nine = absurd (nine (rw (k, r)))
    by true true k r one nine = rw (k, r) (seen pairs (length pairs / 8))

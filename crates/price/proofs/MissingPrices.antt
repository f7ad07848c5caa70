-- What is missing is never averaged in: an interval whose price is missing changes nothing, and the average over intervals of which some are missing is the
-- average over the others.
use Rattle.std.proofs.Common.{◌≡◌, ℕ, zero, suc, Bool, true, false, List, [], ◌∷◌, ◌++◌, sym, refl, ap, ◌∙◌}
use Rattle.hour.specs.Layout.{missing}
use Rattle.price.specs.declared.Average.{Average}
use Rattle.price.specs.Price.{empty_average, with_interval, average_of, quantity_of, price_of}
use Rattle.price.specs.Intervals.{average_over, present, first_intervals}

pub missing_changes_nothing : (average : Average) (quantity price : ℕ) → missing price ≡ true → with_interval average quantity price ≡ average
unfolding with_interval
missing_changes_nothing average quantity price e = rw e

-- one interval at the front, present or not
over_one : (average : Average) (interval : ℕ × ℕ) (rest : List (ℕ × ℕ)) (t : Bool) → missing interval.1 ≡ t
    → ((a : Average) → average_over a (present rest) ≡ average_over a rest)
    → average_over average (present (interval ∷ rest)) ≡ average_over average (interval ∷ rest)
unfolding average_over present
over_one average interval rest true e same = rw (missing_changes_nothing average interval.0 interval.1 e, e) (same average)
over_one average interval rest false e same = rw e (same (with_interval average interval.0 interval.1))

over_present : (intervals : List (ℕ × ℕ)) (average : Average) → average_over average (present intervals) ≡ average_over average intervals
unfolding present
over_present [] average = refl
over_present (interval ∷ rest) average = over_one average interval rest (missing interval.1) refl (over_present rest)

over_append : (average : Average) (some : List (ℕ × ℕ)) (last : ℕ × ℕ)
    → average_over average (some ++ (last ∷ [])) ≡ with_interval (average_over average some) last.0 last.1
unfolding average_over
over_append average [] last = refl
over_append average (interval ∷ rest) last = over_append (with_interval average interval.0 interval.1) rest last

pub as_list : (pairs : List ℕ) (n : ℕ) → average_of pairs n ≡ average_over empty_average (first_intervals pairs n)
unfolding average_of average_over first_intervals
as_list pairs zero = refl
as_list pairs (suc n) =
    ap (λ a. with_interval a (quantity_of pairs n) (price_of pairs n)) (as_list pairs n)
    ∙ sym (over_append empty_average (first_intervals pairs n) (quantity_of pairs n, price_of pairs n))

pub only_present_count : (pairs : List ℕ) (n : ℕ) → average_of pairs n ≡ average_over empty_average (present (first_intervals pairs n))
only_present_count pairs n = as_list pairs n ∙ sym (over_present (first_intervals pairs n) empty_average)

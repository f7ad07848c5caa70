-- What the words of an hour must keep, in file order. `start` is the first word of the hour's body in the file: a place is `start` and the word in the body.
use Rattle.std.specs.Prelude.{ℕ, ◌+◌, ◌*◌, ◌||◌, leb, List, nat_le, unsigned_abs}
use Rattle.exact.specs.Total.{total}
use Rattle.words.specs.Word.{word_at, signed_of}
use Rattle.words.specs.Bytes.{words_from}
use Rattle.limits.specs.Ranges.{most_deficiency, most_requirement, most_market_price, most_quantity, most_demand}
use Rattle.verdict.specs.Verdict.{Accepted, Verdict}
use Rattle.verdict.specs.declared.Refusal.TheVariants.{OutOfRange, RunningDemandTooLarge}
use Rattle.verdict.specs.First.{rule◌else◌then◌, ◌or_else◌, scan}
use Rattle.hour.specs.Layout.{missing}

abbrev pub range_rule : (place most number : ℕ) → Verdict
range_rule place most number = rule leb number most else OutOfRange place then Accepted

-- a pair of interval quantity and price, each with its place
abbrev pub pair_rule : (quantity_place price_place quantity price : ℕ) → Verdict
pair_rule quantity_place price_place quantity price =
    rule leb quantity most_quantity else OutOfRange quantity_place then
    rule missing price || nat_le (unsigned_abs (signed_of price)) most_market_price else OutOfRange price_place then
    Accepted

-- a demand behind running demand `before`
abbrev pub demand_rule : (place before demand : ℕ) → Verdict
demand_rule place before demand =
    rule leb demand most_demand else OutOfRange place then
    rule leb (before + demand) most_demand else RunningDemandTooLarge place then
    Accepted

module _ (start : ℕ) (body : List ℕ) where
  -- a deficiency of the hour that starts at word `at`
  unfoldable pub deficiency_rule_at : ℕ → ℕ → Verdict
  deficiency_rule_at at i = range_rule (start + (at + i)) most_deficiency (word_at body (at + i))

  unfoldable pub deficiencies_rule : ℕ → Verdict
  deficiencies_rule at = scan (deficiency_rule_at at) 0 6

  -- an interval of those that start at word `from`
  unfoldable pub interval_rule_at : ℕ → ℕ → Verdict
  interval_rule_at from i = pair_rule (start + (from + 2 * i)) (start + (from + 2 * i + 1)) (word_at body (from + 2 * i)) (word_at body (from + 2 * i + 1))

  unfoldable pub intervals_rule : ℕ → ℕ → Verdict
  intervals_rule from count = scan (interval_rule_at from) 0 count

  -- a demand of those that start at word `from`, behind the running demand of those before it
  unfoldable pub demand_rule_at : ℕ → ℕ → Verdict
  demand_rule_at from i = demand_rule (start + (from + i)) (total (words_from body from i)) (word_at body (from + i))

  unfoldable pub demands_rule : ℕ → ℕ → Verdict
  demands_rule from count = scan (demand_rule_at from) 0 count

  -- the first eight numbers of the hour that starts at word `at`: six deficiencies, requirement, MEC
  unfoldable pub numbers_rule : ℕ → Verdict
  numbers_rule at =
      deficiencies_rule at
      or_else range_rule (start + (at + 6)) most_requirement (word_at body (at + 6))
      or_else range_rule (start + (at + 7)) most_market_price (unsigned_abs (signed_of (word_at body (at + 7))))

  -- that hour: its eight numbers, 12 pairs for each load point, a demand for each coordinator
  unfoldable pub hour_rule : ℕ → ℕ → ℕ → Verdict
  hour_rule load count at =
      numbers_rule at
      or_else intervals_rule (at + 8) (12 * load)
      or_else demands_rule (at + 8 + 24 * load) count

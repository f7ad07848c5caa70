-- The words of an hour, each judged by its rule.
use Prim.Native.Nat.{ℕ, suc, ◌+◌, ◌*◌, ◌≤◌, ◌<◌}
use mathlib.Core.Bool.{Bool, true, false, ◌||◌}
use mathlib.Core.List.{List}
use mathlib.Core.Path.{◌≡◌, refl}
use native.Mathlib.Omega.{arith}
use lib.Dec.{leb}
use lib.IntN.{nat_abs}
use borrow.Author.Tests.{leb-true, le-leb}
use Rattle.verdict.specs.Verdict.{Accepted}
use Rattle.words.specs.Word.{word_at, signed_of}
use Rattle.verdict.specs.declared.Refusal.TheVariants.{OutOfRange, RunningDemandTooLarge}
use Rattle.words.specs.Bytes.{words_from}
use Rattle.exact.specs.Total.{total}
use Rattle.limits.specs.Ranges.{most_deficiency, most_requirement, most_market_price, most_quantity, most_demand}
use Rattle.hour.specs.Layout.{missing, hour_words}
use Rattle.hour.specs.Kept.{QuantityKept, PriceKept}
use Rattle.hour.specs.Check.{range_rule, pair_rule, demand_rule, deficiency_rule_at, deficiencies_rule, interval_rule_at, intervals_rule, demand_rule_at}
use Rattle.hour.specs.Check.{demands_rule, numbers_rule, hour_rule}
use Rattle.acceptance.proofs.Judged.{Judged, Nothing, Word, Both, Each, accepted_judged, rule_judged, most_judged, and_judged, scan_judged}

-- ---- one number or pair

abbrev pub Ranged : (place most number : ℕ) → ℕ → Type 0
Ranged place most number = Word place (number ≤ most) Nothing

range_judged : (place most number end : ℕ) → place < end → Judged (range_rule place most number) place end (Ranged place most number)
range_judged place most number end room =
    most_judged number most (OutOfRange place) Accepted place end Nothing (omega arith) (omega arith) room (accepted_judged place end)

price_test : (absent small : Bool) → (absent || small) ≡ true → absent ≡ false → small ≡ true
price_test absent small h there = simp there at h

price_kept : (absent small : Bool) → (absent ≡ false → small ≡ true) → (absent || small) ≡ true
price_kept true small h = refl
price_kept false small h = h refl

abbrev pub Paired : (place next quantity price : ℕ) → ℕ → Type 0
Paired place next quantity price = Word place (QuantityKept quantity) (Word next (PriceKept price) Nothing)

pair_judged : (place next quantity price end : ℕ) → place ≤ next → next < end
    → Judged (pair_rule place next quantity price) place end (Paired place next quantity price)
pair_judged place next quantity price end order room =
    most_judged quantity most_quantity (OutOfRange place) _ next end _ (omega arith) order (omega arith)
    (rule_judged (OutOfRange next) Accepted next end (PriceKept price) Nothing (omega arith) (omega arith) room (accepted_judged next end)
    (missing price || leb (nat_abs (signed_of price)) most_market_price)
    (λ h there. leb-true (nat_abs (signed_of price)) most_market_price (price_test (missing price) _ h there))
    (λ h. price_kept (missing price) _ (λ there. le-leb (nat_abs (signed_of price)) most_market_price (h there))))

abbrev pub Demanded : (place before demand : ℕ) → ℕ → Type 0
Demanded place before demand = Word place (demand ≤ most_demand) (Word place (before + demand ≤ most_demand) Nothing)

demand_judged : (place before demand end : ℕ) → place < end → Judged (demand_rule place before demand) place end (Demanded place before demand)
demand_judged place before demand end room =
    most_judged demand most_demand (OutOfRange place) _ place end _ (omega arith) (omega arith) room
    (most_judged (before + demand) most_demand (RunningDemandTooLarge place) Accepted place end Nothing (omega arith) (omega arith) room
    (accepted_judged place end))

-- ---- the hour that starts at word `at` of the body

module _ (start : ℕ) (body : List ℕ) (load count at : ℕ) where
  abbrev pub Deficiency : ℕ → ℕ → Type 0
  Deficiency i = Ranged (start + (at + i)) most_deficiency (word_at body (at + i))

  abbrev pub Requirement : ℕ → Type 0
  Requirement = Ranged (start + (at + 6)) most_requirement (word_at body (at + 6))

  abbrev pub Mec : ℕ → Type 0
  Mec = Ranged (start + (at + 7)) most_market_price (nat_abs (signed_of (word_at body (at + 7))))

  abbrev pub Interval : ℕ → ℕ → Type 0
  Interval i =
      Paired (start + (at + 8 + 2 * i)) (start + (at + 8 + 2 * i + 1)) (word_at body (at + 8 + 2 * i)) (word_at body (at + 8 + 2 * i + 1))

  abbrev pub Demand : ℕ → ℕ → Type 0
  Demand i = Demanded (start + (at + 8 + 24 * load + i)) (total (words_from body (at + 8 + 24 * load) i)) (word_at body (at + 8 + 24 * load + i))

  abbrev pub Numbers : ℕ → Type 0
  Numbers = Both (Each 0 6 Deficiency) (Both Requirement Mec)

  abbrev pub Hour : ℕ → Type 0
  Hour = Both Numbers (Both (Each 0 (12 * load) Interval) (Each 0 count Demand))

  deficiencies-judged : Judged (deficiencies_rule start body at) (start + at) (start + (at + 6)) (Each 0 6 Deficiency)
  unfolding deficiencies_rule deficiency_rule_at
  deficiencies-judged =
      scan_judged (deficiency_rule_at start body at) (λ i. start + (at + i)) Deficiency 6 (λ i p. omega arith)
      (λ i p. range_judged (start + (at + i)) most_deficiency (word_at body (at + i)) (start + (at + suc i)) (omega arith)) _ _ (omega arith) (omega arith)

  numbers-judged : Judged (numbers_rule start body at) (start + at) (start + (at + 8)) Numbers
  unfolding numbers_rule
  numbers-judged =
      and_judged _ _ _ (start + (at + 6)) _ _ _ (omega arith) (omega arith) deficiencies-judged
      (and_judged _ _ _ (start + (at + 7)) _ _ _ (omega arith) (omega arith)
      (range_judged (start + (at + 6)) most_requirement (word_at body (at + 6)) (start + (at + 7)) (omega arith))
      (range_judged (start + (at + 7)) most_market_price (nat_abs (signed_of (word_at body (at + 7)))) (start + (at + 8)) (omega arith)))

  intervals-judged : Judged (intervals_rule start body (at + 8) (12 * load)) (start + (at + 8)) (start + (at + 8 + 24 * load)) (Each 0 (12 * load) Interval)
  unfolding intervals_rule interval_rule_at
  intervals-judged =
      scan_judged (interval_rule_at start body (at + 8)) (λ i. start + (at + 8 + 2 * i)) Interval (12 * load) (λ i p. omega arith)
      (λ i p. pair_judged (start + (at + 8 + 2 * i)) (start + (at + 8 + 2 * i + 1)) (word_at body (at + 8 + 2 * i)) (word_at body (at + 8 + 2 * i + 1))
      (start + (at + 8 + 2 * suc i)) (omega arith) (omega arith))
      _ _ (omega arith) (omega arith)

  demands-judged : Judged (demands_rule start body (at + 8 + 24 * load) count) (start + (at + 8 + 24 * load)) (start + (at + hour_words load count))
      (Each 0 count Demand)
  unfolding demands_rule demand_rule_at
  demands-judged =
      scan_judged (demand_rule_at start body (at + 8 + 24 * load)) (λ i. start + (at + 8 + 24 * load + i)) Demand count (λ i p. omega arith)
      (λ i p. demand_judged (start + (at + 8 + 24 * load + i)) (total (words_from body (at + 8 + 24 * load) i)) (word_at body (at + 8 + 24 * load + i))
      (start + (at + 8 + 24 * load + suc i)) (omega arith))
      _ _ (omega arith) (omega arith)

  pub hour_judged : Judged (hour_rule start body load count at) (start + at) (start + (at + hour_words load count)) Hour
  unfolding hour_rule
  hour_judged =
      and_judged _ _ _ (start + (at + 8)) _ _ _ (omega arith) (omega arith) numbers-judged
      (and_judged _ _ _ (start + (at + 8 + 24 * load)) _ _ _ (omega arith) (omega arith) intervals-judged demands-judged)

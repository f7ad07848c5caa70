-- The rules of a body's words, said word by word and in no order. `Stands j` says of which words they are said: a rule is kept where its word stands.
use Rattle.std.specs.Prelude.{ℕ, ◌+◌, ◌*◌, ◌/◌, ◌≤◌, ◌<◌, List, ◌≡◌, nat_abs, length}
use Rattle.exact.specs.Total.{total}
use Rattle.words.specs.Word.{word_at}
use Rattle.words.specs.Bytes.{words_from}
use Rattle.limits.specs.Ranges.{day_hours, most_hub_price, most_days, largest_number}
use Rattle.hour.specs.Kept.{DeficiencyKept, RequirementKept, MecKept, QuantityKept, PriceKept, DemandKept}
use Rattle.body.specs.Layout.{body_words, kind_of, flag_of, days_of, hub_price_a, hub_price_b, points_of, coordinators_of, coordinator_at}
use Rattle.body.specs.Layout.{coordinator_before, hour_at, deficiency_at, requirement_at, intervals_at, quantity_at, price_at, demands_at, demand_at}
use Rattle.body.specs.Check.{most_of_kind}

-- The body has at most `most` load points, and `ciso` CISO areas stand before it in the file.
pub record BodyKept (Stands : ℕ → Type 0) (most ciso : ℕ) (body : List ℕ) : Type 0 where
  -- "kind (1 CISO, at most one in a file; 0 other)"
  pub kind : Stands 0 → (kind_of body ≤ 1) × (ciso + kind_of body ≤ 1)
  -- "EDAM flag 0 or 1"
  pub flag : Stands 1 → flag_of body ≤ 1
  -- "persistent days d 0 to 30"
  pub days : Stands 2 → days_of body ≤ most_days
  -- "hub price A, hub price B (each -200,000 to 200,000)"
  pub hub_a : Stands 3 → nat_abs (hub_price_a body) ≤ most_hub_price
  pub hub_b : Stands 4 → nat_abs (hub_price_b body) ≤ most_hub_price
  -- "load points L 1 or 2"
  pub points : Stands 5 → (1 ≤ points_of body) × (points_of body ≤ most)
  -- "coordinators K (1 to 64; exactly 1 for kind 0)", and "Body words = 7 + K + 24(8 + 24L + K)"
  pub coordinators : Stands 6
      → (1 ≤ coordinators_of body) × (coordinators_of body ≤ most_of_kind (kind_of body))
      × (length body / 4 ≡ body_words (points_of body) (coordinators_of body))
  -- "K coordinator numbers, 1 to 2,147,483,647, strictly rising"
  pub coordinator : (i : ℕ) → i < coordinators_of body → Stands (7 + i)
      → (coordinator_before body i < coordinator_at body i) × (coordinator_at body i ≤ largest_number)
  -- "upward deficiencies of energy, regulation up, spin, non-spin; downward deficiencies of energy, regulation down (each 0 to 2,500,000)"
  pub deficiency : (h i : ℕ) → h < day_hours → i < 6 → Stands (hour_at body h + i) → DeficiencyKept (deficiency_at body h i)
  -- "upward imbalance reserve requirement Q (0 to 50,000,000)"
  pub requirement : (h : ℕ) → h < day_hours → Stands (hour_at body h + 6) → RequirementKept (requirement_at body h)
  -- "MEC (-20,000,000 to 20,000,000)"
  pub mec : (h : ℕ) → h < day_hours → Stands (hour_at body h + 7) → MecKept (word_at body (hour_at body h + 7))
  -- "12L pairs of interval quantity (0 to 10,000,000) and price"
  pub quantity : (h i : ℕ) → h < day_hours → i < 12 * points_of body → Stands (intervals_at body h + 2 * i) → QuantityKept (quantity_at body h i)
  pub price : (h i : ℕ) → h < day_hours → i < 12 * points_of body → Stands (intervals_at body h + 2 * i + 1) → PriceKept (price_at body h i)
  -- "K metered demands (0 to 100,000,000, together at most 100,000,000)"
  pub demand : (h i : ℕ) → h < day_hours → i < coordinators_of body → Stands (demands_at body h + i)
      → DemandKept (total (words_from body (demands_at body h) i)) (demand_at body h i)

-- said of every word
pub record Always : Type 0 where

-- every number of a body is in its range, whatever file it stands in
abbrev pub Sound : ℕ → List ℕ → Type 0
Sound most body = BodyKept (λ _. Always) most 0 body

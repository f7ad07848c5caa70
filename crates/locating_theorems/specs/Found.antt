-- Each word of a day file is found where the layout has it (docs/RULES.md, section 2), a sentence for each kind of word.
use Rattle.std.specs.Prelude.{ℕ, ◌+◌, ◌*◌, ◌<◌, List, ◌≡◌}
use Rattle.body.specs.Layout.{hour_start, points_of, coordinators_of}
use Rattle.contents.specs.File.{areas_of, start_at, size_at, body_at}
use Rattle.locating.specs.declared.Field.{Field}
use Rattle.locating.specs.declared.Field.TheVariants.{Coordinator, IntervalQuantity, IntervalPrice, Demand}
use Rattle.locating.specs.declared.Place.{Place}
use Rattle.locating.specs.Locating.{head_field, entry_field, body_field, number_field, in_body, place_of}

abbrev pub place : (entry hour : ℕ) → Field → Place
place entry hour field = record { entry = entry; hour = hour; field = field }

-- the words of the body of entry k, with L load points and K coordinators, whatever these are; h from 0 is the hour ending h + 1
pub record FoundInBody (k points coordinators : ℕ) : Type 0 where
  pub head : (i : ℕ) → i < 7 → in_body k points coordinators i ≡ place (k + 1) 0 (body_field i)
  pub coordinator : (i : ℕ) → i < coordinators → in_body k points coordinators (7 + i) ≡ place (k + 1) 0 (Coordinator (i + 1))
  pub number : (h i : ℕ) → i < 8 → in_body k points coordinators (hour_start points coordinators h + i) ≡ place (k + 1) (h + 1) (number_field i)
  -- 12L pairs, a quantity before its price
  pub quantity : (h i : ℕ) → i < 12 * points
      → in_body k points coordinators (hour_start points coordinators h + 8 + 2 * i) ≡ place (k + 1) (h + 1) (IntervalQuantity (i + 1))
  pub price : (h i : ℕ) → i < 12 * points
      → in_body k points coordinators (hour_start points coordinators h + 8 + 2 * i + 1) ≡ place (k + 1) (h + 1) (IntervalPrice (i + 1))
  pub demand : (h i : ℕ) → i < coordinators
      → in_body k points coordinators (hour_start points coordinators h + 8 + 24 * points + i) ≡ place (k + 1) (h + 1) (Demand (i + 1))

-- the words of a file: its head, its contents, and each body where its entry says
pub record Found (file : List ℕ) : Type 0 where
  pub head : (i : ℕ) → i < 4 → place_of file i ≡ place 0 0 (head_field i)
  pub entry : (k i : ℕ) → k < areas_of file → i < 3 → place_of file (4 + 3 * k + i) ≡ place (k + 1) 0 (entry_field i)
  pub body : (k j : ℕ) → k < areas_of file → j < size_at file k
      → place_of file (start_at file k + j) ≡ in_body k (points_of (body_at file k)) (coordinators_of (body_at file k)) j

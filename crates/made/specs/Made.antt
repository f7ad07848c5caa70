-- Day files that are put together: for a day and some areas, a file that the check accepts and that marks just these.
use Rattle.std.specs.Prelude.{ℕ, ◌+◌, ◌-◌, ◌≤◌, List, [], ◌∷◌, ◌++◌, map, length, replicate}
use Rattle.words.specs.Bytes.{words_bytes, Below}
use Rattle.limits.specs.Ranges.{largest_number, least_body_words}
use Rattle.limits.specs.Editions.{most_held, widest_edition}
use Rattle.contents.specs.Parts.{Area, file_of}

-- kind 0, flag 1, no persistent days, hub prices 0, one load point, one coordinator, of number 1; then the first word of the first hour
abbrev pub made_front : ℕ → List ℕ
made_front deficiency = 0 ∷ 1 ∷ 0 ∷ 0 ∷ 0 ∷ 1 ∷ 1 ∷ 1 ∷ deficiency ∷ []

-- and m zeros behind it
abbrev pub made_words : (deficiency m : ℕ) → List ℕ
made_words deficiency m = made_front deficiency ++ replicate m 0

-- so many that the body is of the fewest words that a body has
abbrev pub zeros : ℕ
zeros = least_body_words - 9

-- a body with so large an energy deficiency in its first hour, and no other
unfoldable pub made_body : ℕ → List ℕ
made_body deficiency = words_bytes (made_words deficiency zeros)

-- 20 MW: with Q 0 "3 if 2U > Q"
abbrev pub shortage : ℕ
shortage = 20000

abbrev pub failing_body : List ℕ
failing_body = made_body shortage

-- no hour with a deficiency
abbrev pub quiet_body : List ℕ
quiet_body = made_body 0

abbrev pub made_area : (deficiency number : ℕ) → Area
made_area deficiency number = record { number = number; body = made_body deficiency }

-- of the edition that has room for every area that a record holds, without peak hours
unfoldable pub file_made : (deficiency date : ℕ) → List ℕ → List ℕ
file_made deficiency date areas = file_of widest_edition date 0 (map (made_area deficiency) areas)

abbrev pub file_marking : ℕ → List ℕ → List ℕ
file_marking date areas = file_made shortage date areas

abbrev pub quiet_file : ℕ → List ℕ
quiet_file date = file_made 0 date (1 ∷ [])

-- a file for a day on which just these areas are marked; where there are none, of one area that is not
unfoldable pub entry_file : (date : ℕ) → (areas : List ℕ) → List ℕ
entry_file date [] = quiet_file date
entry_file date (a ∷ areas) = file_marking date (a ∷ areas)

-- areas that rise, each at least `low`
abbrev pub RisingNumbers : ℕ → List ℕ → Type 0
RisingNumbers low [] = Unit {0}
RisingNumbers low (a ∷ areas) = (low ≤ a) × RisingNumbers (a + 1) areas

-- areas that a record may hold and a file may have: not too many, rising, each "1 to 2,147,483,647"
pub record FileAreas (areas : List ℕ) : Type 0 where
  pub few : length areas ≤ most_held
  pub rising : RisingNumbers 1 areas
  pub small : Below (largest_number + 1) areas

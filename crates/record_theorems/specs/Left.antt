-- Which lists of areas accepted entries leave on a day: the areas rising, each with a marked day, none further back than thirty days or than the
-- first of all.
use Rattle.std.specs.Prelude.{ℕ, zero, suc, ◌-◌, ◌<◌, ◌≤◌, ◌^◌, min, ◌≡◌, true, cond, List, [], ◌∷◌, eqb, length}
use Rattle.limits.specs.Ranges.{recorded_days, largest_number}
use Rattle.limits.specs.Editions.{most_held}
use Rattle.calendar.specs.Date.{real_date}
use Rattle.calendar.specs.DayNumber.{day_number}
use Rattle.marks.specs.Marks.{bit_at}
use Rattle.recording.specs.declared.Place.{Place}
use Rattle.recording.specs.Record.{marks_of}
use Rattle.record_theorems.specs.Entries.{Entry, held_after, Rising, AllMarked}

-- a list that may be left on the day of number `day`
pub record Left (day : ℕ) (l : List Place) : Type 0 where
  pub few : length l ≤ most_held
  pub rising : Rising 0 l
  pub marked : AllMarked l
  pub within : (area : ℕ) → marks_of area l < 2 ^ recorded_days
  pub begun : (area i : ℕ) → day < i → i < recorded_days → bit_at (marks_of area l) i ≡ 0

-- the areas have numbers that a file may have
abbrev pub AreasKnown : List Place → Type 0
AreasKnown [] = Unit {0}
AreasKnown (p ∷ l) = (p.area ≤ largest_number) × AreasKnown l

-- a list that may be left on a date
pub record MayBeLeft (last : ℕ) (l : List Place) : Type 0 where
  pub real : real_date last ≡ true
  pub left : Left (day_number last) l
  pub from_one : Rising 1 l
  pub known : AreasKnown l

-- entries after each of which a record has room for the areas held
abbrev pub Fitting : List Entry → Type 0
Fitting [] = Unit {0}
Fitting (e ∷ es) = (length (held_after (e ∷ es)) ≤ most_held) × Fitting es

-- ---- the entries that a list speaks of

-- the areas that have a bit set
unfoldable pub areas_at : ℕ → List Place → List ℕ
areas_at i [] = []
areas_at i (p ∷ l) = cond (eqb (bit_at p.marks i) 1) (p.area ∷ areas_at i l) (areas_at i l)

-- n of them, the last one i days before the day
unfoldable pub entries_for : ℕ → List Place → (i n : ℕ) → List Entry
entries_for day l i zero = []
entries_for day l i (suc n) = record { day = day - i; areas = areas_at i l } ∷ entries_for day l (suc i) n

-- those of the thirty days that end with the day, or of the days since the first
abbrev pub last_entries : ℕ → List Place → List Entry
last_entries day l = entries_for day l 0 (suc (min (recorded_days - 1) day))

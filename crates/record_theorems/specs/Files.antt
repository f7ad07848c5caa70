-- Day files entered one after the other from the empty record, and what such a list says of the record that it leaves. The last file is listed first.
use Rattle.std.specs.Prelude.{ℕ, suc, ◌+◌, ◌<◌, List, [], ◌∷◌, ◌≡◌, length, get_or}
use Rattle.limits.specs.Ranges.{recorded_days}
use Rattle.calendar.specs.DayNumber.{day_number}
use Rattle.verdict.specs.Verdict.{number_of}
use Rattle.contents.specs.File.{day_of, areas_of, number_at, body_at}
use Rattle.marks.specs.Marks.{bit_at}
use Rattle.recording.specs.declared.Record.{Record}
use Rattle.recording.specs.Record.{place, entries, record_of, marks_of}
use Rattle.marking.specs.Marked.{Marked, marked_areas}
use Rattle.entering.specs.Enter.{enter_of, entered}
use Rattle.record_theorems.specs.Entries.{Entry}

-- the record before any entry: every word is 0
abbrev pub empty_record : Record
empty_record = record_of 0 []

-- the record after the list
unfoldable pub after_files : List (List ℕ) → Record
after_files [] = empty_record
after_files (file ∷ files) = (entered (after_files files) file).after

-- each of its files was accepted
abbrev pub AllEntered : List (List ℕ) → Type 0
AllEntered [] = Unit {0}
AllEntered (file ∷ files) = (number_of (enter_of (after_files files) file) ≡ 0) × AllEntered files

-- a list of accepted entries that leaves a record
pub record Leaving (r : Record) : Type 0 where
  pub files : List (List ℕ)
  pub accepted : AllEntered files
  pub leave : after_files files ≡ r

-- the day of the last file; 0 where there is none
abbrev pub last_day : List (List ℕ) → ℕ
last_day [] = 0
last_day (file ∷ files) = day_of file

abbrev pub file_at : List (List ℕ) → ℕ → List ℕ
file_at files j = get_or files j []

-- a file of the list, file j, is of the day of that number and marks the area, its area k
pub record MarkedBy (files : List (List ℕ)) (day area : ℕ) : Type 0 where
  pub j : ℕ
  pub listed : j < length files
  pub of_day : day_number (day_of (file_at files j)) ≡ day
  pub k : ℕ
  pub among : k < areas_of (file_at files j)
  pub number : number_at (file_at files j) k ≡ area
  pub marked : Marked (body_at (file_at files j) k)

-- the file of the day i days before the day of number `day` marks the area
pub record MarkedBefore (files : List (List ℕ)) (day area i : ℕ) : Type 0 where
  pub on : ℕ
  pub apart : on + i ≡ day
  pub by : MarkedBy files on area

-- some file of the thirty days that end with the last one does
pub record MarkedWithin (files : List (List ℕ)) (area : ℕ) : Type 0 where
  pub i : ℕ
  pub inside : i < recorded_days
  pub before : MarkedBefore files (day_number (last_day files)) area i

-- an area stands in one of the places that are held
pub record Held (r : Record) (area : ℕ) : Type 0 where
  pub at : ℕ
  pub inside : at < r.held
  pub number : (get_or r.places at (place 0 0)).area ≡ area

-- "The record after any sequence of accepted entries is what the list of those entries says."
pub record EntriesSay (files : List (List ℕ)) (r : Record) : Type 0 where
  -- its last day is the last file's
  pub last : r.last ≡ last_day files
  -- an area is held exactly if some file of the last thirty days marks it
  pub held : (area : ℕ) → Held r area → MarkedWithin files area
  pub held_so : (area : ℕ) → MarkedWithin files area → Held r area
  -- bit i is set exactly if the file of the day i days before marks it
  pub bit : (area i : ℕ) → i < recorded_days → bit_at (marks_of area (entries r)) i ≡ 1 → MarkedBefore files (day_number (last_day files)) area i
  pub bit_so : (area i : ℕ) → i < recorded_days → MarkedBefore files (day_number (last_day files)) area i → bit_at (marks_of area (entries r)) i ≡ 1

-- what each file enters: the number of its day, and the areas that it marks
unfoldable pub entries_of : List (List ℕ) → List Entry
entries_of [] = []
entries_of (file ∷ files) = record { day = day_number (day_of file); areas = marked_areas file } ∷ entries_of files

-- how many of the numbers 0 to n - 1 have a property
pub data Counts (P : ℕ → Type 0) : ℕ → ℕ → Type 0 where
  none : Counts P 0 0
  with_it : {n d : ℕ} → P n → Counts P n d → Counts P (suc n) (d + 1)
  without : {n d : ℕ} → (P n → ⊥) → Counts P n d → Counts P (suc n) d

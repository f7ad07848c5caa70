-- The words of a record, in which it is kept from one day to the next (docs/FORMAT.md): the last day entered, the number of areas held, then for
-- each place an area's number and its marks.
use Rattle.std.specs.Prelude.{ℕ, ◌+◌, ◌*◌, ◌<◌, List, ◌≡◌, get_or}
use Rattle.limits.specs.Editions.{most_held}
use Rattle.recording.specs.declared.Place.{Place}
use Rattle.recording.specs.declared.Record.{Record}
use Rattle.recording.specs.Record.{place}

-- how many they are
abbrev pub record_words : ℕ
record_words = 2 + 2 * most_held

-- place k of some words
abbrev pub place_in : List ℕ → ℕ → Place
place_in words k = place (get_or words (2 + 2 * k) 0) (get_or words (3 + 2 * k) 0)

-- the words say the record
pub record Says (words : List ℕ) (r : Record) : Type 0 where
  pub last : get_or words 0 0 ≡ r.last
  pub held : get_or words 1 0 ≡ r.held
  pub places : (k : ℕ) → k < most_held → place_in words k ≡ get_or r.places k (place 0 0)

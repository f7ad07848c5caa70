-- A well-formed day file (docs/RULES.md, section 2), said word by word and in no order: every word keeps the rule of what it is. Each rule stands
-- behind a guard, so that it can be said of the words before a word p alone; with p the number of words in the file it is said of every word.
use Rattle.std.specs.Prelude.{ℕ, ◌+◌, ◌*◌, ◌/◌, ◌%◌, ◌≤◌, ◌<◌, true, List, ◌⊎◌, ◌≡◌, length}
use Rattle.limits.specs.declared.Limits.{Limits}
use Rattle.limits.specs.Ranges.{largest_number, least_body_words, peak_word}
use Rattle.limits.specs.Editions.{limits_of, KnownEdition, WithinBytes}
use Rattle.calendar.specs.Date.{real_date}
use Rattle.body.specs.Kept.{BodyKept}
use Rattle.contents.specs.File.{edition_of, day_of, areas_of, peak_of, number_at, start_at, size_at, number_before, due_at, body_at}
use Rattle.dayfile.specs.Ciso.{ciso_before}

-- Every word of a file that stands before word p keeps its rule.
pub record FileKept (limits : Limits) (file : List ℕ) (p : ℕ) : Type 0 where
  -- "Word 0: edition, 1"
  pub edition : 0 < p → KnownEdition (edition_of file)
  -- "Word 1: trading day as YYYYMMDD, a real Gregorian date, 2000 to 2099"
  pub day : 1 < p → real_date (day_of file) ≡ true
  -- "Word 2: number of areas n, 1 to 8", and the file has 4 + 3n words
  pub areas : 2 < p → (1 ≤ areas_of file) × (areas_of file ≤ limits.areas) × (4 + 3 * areas_of file ≤ length file / 4)
  -- "Word 3: peak hours, 0 (none) or 4,194,240"
  pub peak : 3 < p → (peak_of file ≡ 0) ⊎ (peak_of file ≡ peak_word)
  -- "Area numbers are 1 to 2,147,483,647, strictly rising"
  pub number : (k : ℕ) → k < areas_of file → 4 + 3 * k < p → (number_before file k < number_at file k) × (number_at file k ≤ largest_number)
  -- "Bodies follow in entry order without gaps, the first at word 4 + 3n"
  pub body_start : (k : ℕ) → k < areas_of file → 4 + 3 * k + 1 < p → start_at file k ≡ due_at file (areas_of file) k
  -- "A body has 800 to 2,951 words"; it ends within the file, "the last ending with the file"
  pub body_size : (k : ℕ) → k < areas_of file → 4 + 3 * k + 2 < p
      → (least_body_words ≤ size_at file k) × (size_at file k ≤ limits.words) × (start_at file k + size_at file k ≤ length file / 4)
      × (k + 1 ≡ areas_of file → start_at file k + size_at file k ≡ length file / 4)
  -- the words of the bodies; they stand where the contents say, so nothing is said of them until a word behind the contents stands before p
  pub body : (k : ℕ) → k < areas_of file → 4 + 3 * areas_of file < p
      → BodyKept (λ j. start_at file k + j < p) limits.points (ciso_before file k) (body_at file k)

-- The first word that breaks its rule: every word before it keeps its own, and it does not.
pub record FirstBroken (limits : Limits) (file : List ℕ) (place : ℕ) : Type 0 where
  pub inside : place < length file / 4
  pub before : FileKept limits file place
  pub broken : FileKept limits file (place + 1) → ⊥

-- a length that a file may have: not "under 16 bytes, over 65,536, or no multiple of 4"
pub record LengthKept (limits : Limits) (file : List ℕ) : Type 0 where
  pub least : 16 ≤ length file
  pub most : WithinBytes limits (length file)
  pub whole : length file % 4 ≡ 0

-- a well-formed file: the length keeps its rule, and every word does, within the limits that the file's first word sets
pub record WellFormed (file : List ℕ) : Type 0 where
  pub length_kept : LengthKept (limits_of (edition_of file)) file
  pub words_kept : FileKept (limits_of (edition_of file)) file (length file / 4)

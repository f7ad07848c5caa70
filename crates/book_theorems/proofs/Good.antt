-- Days that a book can hold: dates that rise and are real, files of whole words that say their date, places and lengths that have words.
use Prim.Native.Nat.{ℕ, ◌+◌, ◌*◌, ◌≤◌, ◌<◌}
use mathlib.Core.Bool.{true}
use mathlib.Core.Path.{◌≡◌}
use mathlib.Core.List.{List, [], ◌∷◌}
use lib.ListN.{length}
use Rattle.calendar.specs.Date.{real_date}
use Rattle.contents.specs.File.{day_of}
use Rattle.book.specs.Days.{Day, words_of}
use Rattle.book.specs.Check.{least_day_words}

-- a day behind one of date `before`
pub record KeptDay (before : ℕ) (day : Day) : Type 0 where
  pub real : real_date day.date ≡ true
  pub above : before < day.date
  pub long : least_day_words ≤ words_of day
  pub whole : length day.file ≡ 4 * words_of day
  pub dated : day_of day.file ≡ day.date

abbrev pub KeptDays : ℕ → List Day → Type 0
KeptDays before [] = Unit {0}
KeptDays before (day ∷ days) = KeptDay before day × KeptDays day.date days

-- a day whose file starts at word `start`
pub record GoodDay (start : ℕ) (day : Day) : Type 0 where
  pub dated : day.date < 4294967296
  pub placed : start < 4294967296
  pub sized : words_of day < 4294967296
  pub whole : length day.file ≡ 4 * words_of day

abbrev pub GoodDays : ℕ → List Day → Type 0
GoodDays start [] = Unit {0}
GoodDays start (day ∷ days) = GoodDay start day × GoodDays (start + words_of day) days

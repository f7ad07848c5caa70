-- The days of a book, read off the room that it stands in.
use Rattle.std.specs.Prelude.{ℕ, zero, suc, ◌+◌, ◌*◌, ◌/◌, List, [], ◌∷◌, length}
use Rattle.words.specs.Word.{word_at}
use Rattle.moving.specs.Written.{part}
use Rattle.book.specs.Days.{Day}

module _ (room : List ℕ) where
  -- "bytes past its last whole word not counted"
  abbrev pub room_words : ℕ
  room_words = length room / 4

  -- the number of days
  abbrev pub count_of : ℕ
  count_of = word_at room 1

  -- ---- entry k of the contents, from 0

  abbrev pub date_at : ℕ → ℕ
  date_at k = word_at room (2 + 3 * k)

  abbrev pub start_at : ℕ → ℕ
  start_at k = word_at room (2 + 3 * k + 1)

  abbrev pub size_at : ℕ → ℕ
  size_at k = word_at room (2 + 3 * k + 2)

  -- the date before that of entry k; 0 before the first
  unfoldable pub date_before : ℕ → ℕ
  date_before zero = 0
  date_before (suc k) = date_at k

  -- where the file of day k is due: the first behind the contents, each other where the one before it ends
  unfoldable pub due_at : ℕ → ℕ
  due_at zero = 2 + 3 * count_of
  due_at (suc k) = due_at k + size_at k

  -- the word behind the last file
  abbrev pub end_of : ℕ
  end_of = due_at count_of

  -- ---- the days

  unfoldable pub day_at : ℕ → Day
  day_at k = record { date = date_at k; file = part room (4 * start_at k) (4 * size_at k) }

  -- m days from day k on
  unfoldable pub days_from : ℕ → ℕ → List Day
  days_from k zero = []
  days_from k (suc m) = day_at k ∷ days_from (suc k) m

  abbrev pub days_of : List Day
  days_of = days_from 0 count_of

-- A day moved into a month book, and out of it: the days with one more and with one less at a place, the room that is left, and what a day more asks of the room.
use Rattle.std.specs.Prelude.{ℕ, suc, ◌+◌, ◌*◌, ◌-◌, ◌/◌, ◌≤◌, List, ◌∷◌, ◌++◌, ◌≡◌, length, drop, replicate}
use Rattle.contents.specs.File.{day_of}
use Rattle.book.specs.Days.{Day}
use Rattle.book.specs.Read.{count_of, end_of, days_from}
use Rattle.book.specs.Sound.{Sound}

-- a day by its file: "a day's date equals its file's word 1"
abbrev pub day_of_file : List ℕ → Day
day_of_file file = record { date = day_of file; file = file }

-- a first word is a word: no entry can say that a file begins behind so many words
abbrev pub most_book_words : ℕ
most_book_words = 4294967296

module _ (room : List ℕ) where
  -- the days with one more at place k
  abbrev pub added_at : ℕ → Day → List Day
  added_at k day = days_from room 0 k ++ (day ∷ days_from room k (count_of room - k))

  -- the days without day k
  abbrev pub without_at : ℕ → List Day
  without_at k = days_from room 0 k ++ days_from room (suc k) (count_of room - suc k)

  -- the room with 0 for every word of its book
  unfoldable pub emptied : List ℕ
  emptied = replicate (4 * end_of room) 0 ++ drop (4 * end_of room) room

-- a day more at place k has room, and its places have words
pub record Fits (room : List ℕ) (k date : ℕ) (file : List ℕ) : Type 0 where
  pub dated : date ≡ day_of file
  pub sound : Sound room
  pub place : k ≤ count_of room
  pub fits : 4 * end_of room + 12 + length file ≤ length room
  pub some : 4 ≤ length file
  pub named : end_of room + 3 + length file / 4 ≤ most_book_words

-- A book by its days: what adding and withdrawing leave, read off the room again.
use Rattle.std.specs.Prelude.{ℕ, ◌+◌, ◌*◌, ◌-◌, List, ◌≡◌, length, drop, replicate}
use Rattle.verdict.specs.Verdict.{number_of}
use Rattle.contents.specs.File.{day_of}
use Rattle.moving.specs.Written.{written, part}
use Rattle.book.specs.Read.{end_of, days_of}
use Rattle.book.specs.Check.{book_rule}
use Rattle.keeping_moves.specs.Moves.{day_of_file}
use Rattle.keeping.specs.Keeping.{insert_day, remove_day, with_day, withdraw_rule, without_day}

-- once a day is added
pub record Added (room file : List ℕ) : Type 0 where
  -- the days are those that were there, and the new one at its place by date
  pub days : days_of (with_day room file) ≡ insert_day (day_of_file file) (days_of room)
  -- the room holds a book again: the next day can be added
  pub book : number_of (book_rule (with_day room file)) ≡ 0
  -- nothing behind the new end changes
  pub behind : drop (4 * end_of room + 12 + length file) (with_day room file) ≡ drop (4 * end_of room + 12 + length file) room

-- once a day is withdrawn
pub record Withdrawn (room : List ℕ) (date : ℕ) : Type 0 where
  pub days : days_of (without_day room date) ≡ remove_day date (days_of room)
  pub book : number_of (book_rule (without_day room date)) ≡ 0
  -- the words between the new end and the old end are 0
  pub freed : part (without_day room date) (4 * end_of (without_day room date)) (4 * end_of room - 4 * end_of (without_day room date))
      ≡ replicate (4 * end_of room - 4 * end_of (without_day room date)) 0
  -- nothing behind the old end changes
  pub behind : drop (4 * end_of room) (without_day room date) ≡ drop (4 * end_of room) room

-- once what was just added is withdrawn again
pub record Back (room file : List ℕ) : Type 0 where
  pub accepted : number_of (withdraw_rule (with_day room file) (day_of file)) ≡ 0
  -- "the same days"
  pub days : days_of (without_day (with_day room file) (day_of file)) ≡ days_of room
  -- "the same words but for freed ones, which are 0": those of an entry and the file, behind the end
  pub words : without_day (with_day room file) (day_of file) ≡ written room (4 * end_of room) (replicate (12 + length file) 0)

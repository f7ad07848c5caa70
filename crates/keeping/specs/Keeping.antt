-- "A day can be added to and withdrawn from a book in lent room; freed words become 0" (docs/RULES.md, section 13).
use Rattle.std.specs.Prelude.{ℕ, ◌+◌, ◌/◌, Bool, false, cond, not, ◌&&◌, ◌||◌, List, [], ◌∷◌, eqb, leb, ltb, length}
use Rattle.verdict.specs.declared.Refusal.TheVariants.{DaysDoNotFit, DateThereOrAbsent}
use Rattle.verdict.specs.Verdict.{number_of, Accepted, Verdict}
use Rattle.verdict.specs.First.{rule◌else◌then◌, ◌or_else◌}
use Rattle.contents.specs.File.{day_of}
use Rattle.dayfile.specs.Check.{check_of}
use Rattle.book.specs.Days.{Day, book_of}
use Rattle.book.specs.Read.{room_words, count_of, end_of, days_of}
use Rattle.book.specs.Check.{most_book_days, book_rule}
use Rattle.keeping_moves.specs.Moves.{day_of_file, most_book_words, emptied}

-- ---- lists of days

-- whether a day of that date is there
unfoldable pub is_there : ℕ → List Day → Bool
is_there date [] = false
is_there date (d ∷ days) = eqb d.date date || is_there date days

-- the day at its place by date
unfoldable pub insert_day : Day → List Day → List Day
insert_day day [] = day ∷ []
insert_day day (d ∷ days) = cond (ltb d.date day.date) (d ∷ insert_day day days) (day ∷ d ∷ days)

-- without the day of that date
unfoldable pub remove_day : ℕ → List Day → List Day
remove_day date [] = []
remove_day date (d ∷ days) = cond (eqb d.date date) days (d ∷ remove_day date days)

-- ---- adding

module _ (room : List ℕ) where
  -- 22, "date already there", then 21, "the days kept plus the new one don't fit or would be 32": an entry of three words and the file come to the book
  unfoldable pub day_rule : (date size : ℕ) → Verdict
  day_rule date size =
      rule not (is_there date (days_of room)) else DateThereOrAbsent then
      rule ltb (count_of room) most_book_days && leb (end_of room + 3 + size) (room_words room) && leb (end_of room + 3 + size) most_book_words else DaysDoNotFit then
      Accepted

  -- 20, then the check's numbers for the new file, then 22 and 21
  unfoldable pub add_rule : List ℕ → Verdict
  add_rule file = book_rule room or_else check_of file or_else day_rule (day_of file) (length file / 4)

  -- the room afterwards: a refusal leaves it as it was
  unfoldable pub with_day : List ℕ → List ℕ
  with_day file = cond (eqb (number_of (add_rule file)) 0) (book_of (insert_day (day_of_file file) (days_of room)) room) room

  -- ---- withdrawing

  -- 20, then 22, "absent"
  unfoldable pub withdraw_rule : ℕ → Verdict
  withdraw_rule date = book_rule room or_else (rule is_there date (days_of room) else DateThereOrAbsent then Accepted)

  -- the room afterwards: the words between the new end and the old end are 0, and a refusal leaves it as it was
  unfoldable pub without_day : ℕ → List ℕ
  without_day date = cond (eqb (number_of (withdraw_rule date)) 0) (book_of (remove_day date (days_of room)) (emptied room)) room

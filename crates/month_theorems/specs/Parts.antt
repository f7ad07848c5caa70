-- The parts of a statement that the days of a book are settled into, one behind the other; and what a settled month leaves.
use Rattle.std.specs.Prelude.{ℕ, zero, suc, ◌+◌, List, [], ◌∷◌, ℤ, length, get_or, take, drop}
use Rattle.book.specs.Days.{Day}
use Rattle.month_rules.specs.Month.{numbers_taken, month_rule, statement_after, table_after}

-- day i, from 0
abbrev pub day_in : List Day → ℕ → Day
day_in days i = get_or days i (record { date = 0; file = [] })

-- its file
abbrev pub file_in : List Day → ℕ → List ℕ
file_in days i = (day_in days i).file

-- the numbers that the days before day i take
unfoldable pub taken_to : List Day → ℕ → ℕ
taken_to [] i = 0
taken_to (day ∷ days) zero = 0
taken_to (day ∷ days) (suc i) = numbers_taken day.file + taken_to days i

module _ (days : List Day) where
  -- the numbers that all of them take
  abbrev pub taken_by : ℕ
  taken_by = taken_to days (length days)

  module _ (i : ℕ) (statement : List ℤ) where
    -- the rest of the statement behind the parts before it
    abbrev pub rest_of : List ℤ
    rest_of = drop (taken_to days i) statement

    -- the part of day i
    abbrev pub part_of : List ℤ
    part_of = take (numbers_taken (file_in days i)) rest_of

-- what `settle_month` leaves of a statement and of a table
module _ (room : List ℕ) (statement : List ℤ) (table : List ℕ) where
  abbrev pub statement_left : List ℤ
  statement_left = statement_after room (month_rule room (length table)) statement

  abbrev pub table_left : List ℕ
  table_left = table_after room (month_rule room (length table)) (length statement) table

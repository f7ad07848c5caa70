-- "One call settles them all into one statement, with the number and place of each day in a lent table" (docs/RULES.md, section 13).
use Rattle.std.specs.Prelude.{ℕ, ◌-◌, cond, List, [], ◌∷◌, ◌++◌, eqb, leb, ℤ, length, take, drop}
use Rattle.verdict.specs.declared.Refusal.TheVariants.{DaysDoNotFit}
use Rattle.verdict.specs.Verdict.{number_of, coded, Accepted, Verdict}
use Rattle.verdict.specs.First.{rule◌else◌then◌, ◌or_else◌}
use Rattle.dayfile.specs.Check.{check_of}
use Rattle.settlement.specs.Settlement.{numbers_needed, settle_of, after}
use Rattle.book.specs.Days.{Day}
use Rattle.book.specs.Read.{count_of, days_of}
use Rattle.book.specs.Check.{book_rule}

-- "A day that its check refuses takes no numbers"; any other takes its numbers needed, also where it is refused
unfoldable pub numbers_taken : List ℕ → ℕ
numbers_taken file = cond (eqb (number_of (check_of file)) 0) (numbers_needed file) 0

-- the places of the table, while the statement has `left` numbers left: what settling each day into them answers. "Once a day's part doesn't fit", nothing is
-- left, so that it "and every later day that passes its check get 13, each with its own numbers needed".
unfoldable pub places_of : (left : ℕ) → List Day → List ℕ
places_of left [] = []
places_of left (day ∷ days) = coded (settle_of day.file left) ∷ places_of (left - numbers_taken day.file) days

-- what settling the one file into the statement leaves
abbrev pub settled_day : List ℕ → List ℤ → List ℤ
settled_day file statement = after (settle_of file (length statement)) file statement

-- "that of settling them one by one": the part of each day is what settling it there leaves, and the next day's begins behind it
unfoldable pub settled_days : List Day → List ℤ → List ℤ
settled_days [] statement = statement
settled_days (day ∷ days) statement =
    take (numbers_taken day.file) (settled_day day.file statement) ++ settled_days days (drop (numbers_taken day.file) statement)

module _ (room : List ℕ) where
  -- 20, then 21, "the table has fewer places than days"
  unfoldable pub month_rule : (places : ℕ) → Verdict
  month_rule places = book_rule room or_else (rule leb (count_of room) places else DaysDoNotFit then Accepted)

  -- the statement and the table afterwards: "places past the days stay", and a refusal leaves both as they were
  unfoldable pub statement_after : Verdict → List ℤ → List ℤ
  statement_after verdict statement = cond (eqb (number_of verdict) 0) (settled_days (days_of room) statement) statement

  unfoldable pub table_after : Verdict → (left : ℕ) → List ℕ → List ℕ
  table_after verdict left table = cond (eqb (number_of verdict) 0) (places_of left (days_of room) ++ drop (count_of room) table) table

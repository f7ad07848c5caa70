-- The check of a book (docs/RULES.md, section 13): "20, a word of the contents, or a day's word 1, breaks the rule, place the first such word".
use Rattle.std.specs.Prelude.{ℕ, ◌+◌, ◌*◌, ◌&&◌, List, eqb, leb, ltb}
use Rattle.words.specs.Word.{word_at}
use Rattle.calendar.specs.Date.{real_date}
use Rattle.verdict.specs.Verdict.{Accepted, Verdict}
use Rattle.verdict.specs.declared.Refusal.TheVariants.{BadBook}
use Rattle.verdict.specs.First.{rule◌else◌then◌, ◌or_else◌, scan}
use Rattle.book.specs.Read.{room_words, count_of, date_at, start_at, size_at, date_before, due_at}

-- "the number of days, 0 to 31"
abbrev pub most_book_days : ℕ
most_book_days = 31

-- "length in words (4 or more)"
abbrev pub least_day_words : ℕ
least_day_words = 4

-- an entry at word `at`, in a room of `words` words: its date is real and above the one before, its file starts where it is due, has 4 words or more and
-- ends within the room
abbrev pub entry_rule : (words at before due date start size : ℕ) → Verdict
entry_rule words at before due date start size =
    rule real_date date && ltb before date else BadBook at then
    rule eqb start due else BadBook (at + 1) then
    rule leb least_day_words size && leb (due + size) words else BadBook (at + 2) then
    Accepted

module _ (room : List ℕ) where
  unfoldable pub entry_rule_at : ℕ → Verdict
  entry_rule_at k = entry_rule (room_words room) (2 + 3 * k) (date_before room k) (due_at room k) (date_at room k) (start_at room k) (size_at room k)

  -- "A day's date equals its file's word 1"
  unfoldable pub date_rule_at : ℕ → Verdict
  date_rule_at k = rule eqb (word_at room (start_at room k + 1)) (date_at room k) else BadBook (start_at room k + 1) then Accepted

  unfoldable pub book_rule : Verdict
  book_rule =
      rule leb 2 (room_words room) && eqb (word_at room 0) 1 else BadBook 0 then
      rule leb (count_of room) most_book_days && leb (2 + 3 * count_of room) (room_words room) else BadBook 1 then
      scan entry_rule_at 0 (count_of room)
      or_else scan date_rule_at 0 (count_of room)

-- A month book by its days (docs/RULES.md, section 13): "word 0 is 1, word 1 the number of days, then for each day its date, first word and length in words".
-- "The day files follow" in that order, "without gaps; the lent room may go on behind them".
use Rattle.std.specs.Prelude.{ℕ, ◌+◌, ◌*◌, ◌/◌, List, [], ◌∷◌, ◌++◌, length, drop}
use Rattle.words.specs.Bytes.{word_bytes}

pub record Day : Type 0 where
  pub date : ℕ
  pub file : List ℕ

-- the words of a day's file
abbrev pub words_of : Day → ℕ
words_of day = length day.file / 4

-- an entry of the contents
unfoldable pub entry_bytes : (date start size : ℕ) → List ℕ
entry_bytes date start size = word_bytes date ++ word_bytes start ++ word_bytes size

-- the contents of days whose first file starts at word `start`
unfoldable pub contents_of : ℕ → List Day → List ℕ
contents_of start [] = []
contents_of start (day ∷ days) = entry_bytes day.date start (words_of day) ++ contents_of (start + words_of day) days

unfoldable pub files_of : List Day → List ℕ
files_of [] = []
files_of (day ∷ days) = day.file ++ files_of days

-- the bytes of the book
unfoldable pub book_bytes : List Day → List ℕ
book_bytes days = word_bytes 1 ++ (word_bytes (length days) ++ (contents_of (2 + 3 * length days) days ++ files_of days))

-- the book of those days at the front of a room; behind it the room is as it was
unfoldable pub book_of : List Day → List ℕ → List ℕ
book_of days room = book_bytes days ++ drop (length (book_bytes days)) room

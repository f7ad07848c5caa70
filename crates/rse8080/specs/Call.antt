-- "The C call takes file bytes and statement bytes (8 little-endian bytes a number) and returns number × 1,000,000 + place.
-- Bytes past the last whole number don't count and stay."
use Rattle.std.specs.Prelude.{ℕ, ◌*◌, ◌/◌, cond, List, ◌++◌, eqb, length, drop}
use Rattle.verdict.specs.Verdict.{number_of, Verdict}
use Rattle.encoding.specs.Encoding.{encoded}
use Rattle.contents.specs.File.{areas_of}
use Rattle.settlement.specs.Settlement.{numbers_needed, statement_to, days_by, own_days, settle_of}

-- the verdict: a statement of so many bytes has room for an eighth as many numbers
abbrev pub verdict_of : List ℕ → List ℕ → Verdict
verdict_of file statement = settle_of file (length statement / 8)

-- the statement bytes afterwards: those of the settled statement and then what stood behind them, or after a refusal all as they were
unfoldable pub bytes_after : Verdict → List ℕ → List ℕ → List ℕ
bytes_after verdict file statement =
    cond (eqb (number_of verdict) 0)
    (encoded (statement_to (days_by own_days file) file (areas_of file)) ++ drop (8 * numbers_needed file) statement)
    statement

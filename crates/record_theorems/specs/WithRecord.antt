-- What settlement with the record leaves of a statement, and that it is settlement under the d that the record counts, of which the theorems hold.
-- Files that are compared are of one trading day, under the same record.
use Rattle.std.specs.Prelude.{ℕ, List, ◌≡◌, ℤ, length}
use Rattle.verdict.specs.Verdict.{number_of}
use Rattle.contents.specs.File.{day_of}
use Rattle.recording.specs.declared.Record.{Record}
use Rattle.record_check.specs.Left.{record_rule}
use Rattle.settlement.specs.Settlement.{settle_by}
use Rattle.settlement.specs.Shown.{statement_left_by}
use Rattle.recorded.specs.Recorded.{record_days, settle_recorded, after_recorded}

-- the statement that `settle_recorded` leaves of the one that was lent
abbrev pub statement_left_recorded : Record → List ℕ → List ℤ → List ℤ
statement_left_recorded r file statement = after_recorded r file (settle_recorded r file (length statement)) statement

-- a file of that day, after the last one of a good record: the answer and the statement are those of settlement under the record's d
pub record SettledByRecord (r : Record) (date : ℕ) : Type 0 where
  pub answer : (file : List ℕ) → day_of file ≡ date → number_of (record_rule r date) ≡ 0 → (room : ℕ)
      → settle_recorded r file room ≡ settle_by (record_days r date) file room
  pub left : (file : List ℕ) → day_of file ≡ date → number_of (record_rule r date) ≡ 0 → (statement : List ℤ)
      → statement_left_recorded r file statement ≡ statement_left_by (record_days r date) file statement
  -- and what is settled with a record is of a day after its last one, the record being good
  pub judged : (file : List ℕ) → day_of file ≡ date → (room : ℕ) → number_of (settle_recorded r file room) ≡ 0 → number_of (record_rule r date) ≡ 0

-- Settlement with the record (docs/RULES.md, section 12): d of each area is counted from its marks, and the file's own is not looked at.
use Rattle.std.specs.Prelude.{ℕ, List, ℤ}
use Rattle.verdict.specs.Verdict.{Verdict}
use Rattle.verdict.specs.First.{◌or_else◌}
use Rattle.contents.specs.File.{day_of}
use Rattle.dayfile.specs.Check.{check_of}
use Rattle.marks.specs.Marks.{counted}
use Rattle.recording.specs.declared.Record.{Record}
use Rattle.recording.specs.Record.{entries, marks_of}
use Rattle.record_check.specs.Left.{record_rule, days_between}
use Rattle.settlement.specs.Settlement.{accepted_rule, days_by, after_by}

-- "the marked days among the thirty before the trading day", by an area's number; 0 for an area that is not held
abbrev pub record_days : Record → (date : ℕ) → (number : ℕ) → (body : List ℕ) → ℕ
record_days r date number body = counted (marks_of number (entries r)) (days_between r date)

module _ (r : Record) (file : List ℕ) where
  -- the check's 1 to 10, then 14 and 18, then 13, then areas and hours in order
  unfoldable pub settle_recorded : (room : ℕ) → Verdict
  settle_recorded room = check_of file or_else record_rule r (day_of file) or_else accepted_rule (days_by (record_days r (day_of file)) file) file room

  -- the statement afterwards: a refusal leaves it as it was
  abbrev pub after_recorded : Verdict → List ℤ → List ℤ
  after_recorded verdict statement = after_by (record_days r (day_of file)) verdict file statement

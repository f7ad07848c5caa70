-- A day file entered into the record (docs/RULES.md, section 12): the answer, and the record afterwards.
use Rattle.std.specs.Prelude.{ℕ, List, eqb, leb, length}
use Rattle.limits.specs.Editions.{most_held}
use Rattle.verdict.specs.declared.Refusal.TheVariants.{TooManyAreas}
use Rattle.verdict.specs.Verdict.{number_of, Accepted, Verdict}
use Rattle.verdict.specs.First.{rule◌else◌then◌, ◌or_else◌}
use Rattle.contents.specs.File.{day_of}
use Rattle.dayfile.specs.Check.{check_of}
use Rattle.marking.specs.Marked.{marked_areas}
use Rattle.recording.specs.declared.Place.{Place}
use Rattle.recording.specs.declared.Record.{Record}
use Rattle.recording.specs.Record.{entries, record_of, kept, marked_all, pick}
use Rattle.record_check.specs.Left.{record_rule, days_between}

-- the answer of an entry, and the record afterwards
pub record Entered : Type 0 where
  pub answer : Verdict
  pub after : Record

abbrev pub answer_with : Verdict → Record → Entered
answer_with verdict after = record { answer = verdict; after = after }

module _ (r : Record) (file : List ℕ) where
  -- the areas held after the entry: those that keep a marked day, and those that are marked on the day
  abbrev pub held_then : List Place
  held_then = marked_all (marked_areas file) (kept (days_between r (day_of file)) (entries r))

  -- 19: "more than 8 areas would be held"
  unfoldable pub room_rule : Verdict
  room_rule = rule leb (length held_then) most_held else TooManyAreas then Accepted

  -- the check's 1 to 10, then 14 and 18, then 19
  unfoldable pub enter_of : Verdict
  enter_of = check_of file or_else record_rule r (day_of file) or_else room_rule

  -- the record afterwards: "every refusal leaves the record as it was"
  unfoldable pub record_after : Verdict → Record
  record_after verdict = pick (eqb (number_of verdict) 0) (record_of (day_of file) held_then) r

  -- the answer of an entry with the record afterwards
  abbrev pub answered_by : Verdict → Entered
  answered_by verdict = answer_with verdict (record_after verdict)

  abbrev pub entered : Entered
  entered = answered_by enter_of

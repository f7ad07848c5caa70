use Prim.Native.Nat.{ℕ, ◌<◌}
use mathlib.Core.List.{List}
use mathlib.Core.Path.{◌≡◌, ap, ◌∙◌}
use native.Mathlib.Omega.{arith}
use lib.ListN.{length, get_or}
use Rattle.limits.specs.Ranges.{proved_areas}
use Rattle.contents.specs.File.{day_of, areas_of, number_at}
use Rattle.verdict.specs.Verdict.{number_of}
use Rattle.dayfile.proofs.Facts.{within_limits, file_head}
use Rattle.marks.specs.Marks.{counted}
use Rattle.recording.specs.declared.Record.{Record}
use Rattle.recording.specs.Record.{entries, marks_of}
use Rattle.record_check.specs.Left.{admit_rule, days_between}
use Rattle.record_check.proofs.Left.{admitted, Before, record_before, days_few}
use Rattle.settlement.specs.SoundFile.{SoundFile}
use Rattle.settlement.specs.Settlement.{listed, days_by}
use Rattle.settlement.proofs.Accepted.{sound_file, settleable, in_list, rule_same, after_same}
use Rattle.recorded.specs.Recorded.{record_days}
use Rattle.recorded.proofs.settle_after.Goals as goal

-- a file and a record that are admitted
module _ (given : Record) (file : List ℕ) (accepted : number_of (admit_rule given file) ≡ 0) where
  sound : SoundFile file
  sound = sound_file _ (admitted given file accepted).checked

  before : Before given (day_of file)
  before = record_before _ _ (admitted given file accepted).judged

  -- each area's d is that of the record
  days-are : (date g : ℕ) (days : List ℕ) → length days ≡ proved_areas → date ≡ day_of file → g ≡ days_between given date
      → ((k : ℕ) → k < areas_of file → get_or days k 0 ≡ counted (marks_of (number_at file k) (entries given)) g)
      → (k : ℕ) → k < areas_of file → listed days file k ≡ days_by (record_days given (day_of file)) file k
  days-are date g days long e f each k h =
      in_list days file k (omega (arith, h, sound.few))
      ∙ each k h
      ∙ ap (counted (marks_of (number_at file k) (entries given))) (f ∙ ap (days_between given) e)

pub word-date-requires : goal.word-date-requires
word-date-requires c = let room = (sound c.args.given c.args.file.now c.requires.0).room in omega arith

pub word-n-requires : goal.word-n-requires
word-n-requires c = let room = (sound c.args.given c.args.file.now c.requires.0).room in omega arith

pub gap-g-requires : goal.gap-g-requires
gap-g-requires c =
    let a = admitted c.args.given c.args.file.now c.requires.0 in
    rw c.word-date.ensures ((file_head _ _ (within_limits _ a.checked)).real, a.judged)

pub recorded_days-days-requires : goal.recorded_days-days-requires
recorded_days-days-requires c =
    let r = c.args.given in
    let f = c.args.file.now in
    (sound r f c.requires.0, c.word-n.ensures, (before r f c.requires.0).left.few)

pub settle_accepted-requires : goal.settle_accepted-requires
settle_accepted-requires c =
    let r = c.args.given in
    let f = c.args.file.now in
    let are = days-are r f c.requires.0 _ _ c.recorded_days-days.result (omega arith) c.word-date.ensures c.gap-g.ensures c.recorded_days-days.ensures in (
      settleable _ (days_by (record_days r (day_of f)) f) f (sound r f c.requires.0)
          (record { each = λ k h. days_few r (day_of f) (number_at f k) (before r f c.requires.0) }) are,
      c.requires.1,
    )

pub returns : goal.returns
returns c =
    let r = c.args.given in
    let f = c.args.file.now in
    let settled = c.settle_accepted.ensures in
    let are = days-are r f c.requires.0 _ _ c.recorded_days-days.result (omega arith) c.word-date.ensures c.gap-g.ensures c.recorded_days-days.ensures in record {
      value = settled.value ∙ rule_same _ _ f are (length c.args.statement.now);
      statement_after = settled.statement_after ∙ after_same _ _ f are _ _;
    }

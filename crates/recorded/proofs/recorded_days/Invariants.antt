use Rattle.std.proofs.Common.{◌≡◌, ℕ, ◌<◌, length, get_or}
use Rattle.limits.specs.Ranges.{proved_areas}
use Rattle.contents.specs.File.{number_at}
use Rattle.marks.specs.Marks.{counted}
use Rattle.recording.specs.Record.{entries, marks_of}
use Rattle.recorded.proofs.recorded_days.Given as goal

abbrev pub invariant-loop-k : goal.invariant-loop-k
invariant-loop-k l = record {
  room : length l.days ≡ proved_areas;
  counted : (j : ℕ) → j < l.k → get_or l.days j 0 ≡ counted (marks_of (number_at l.file j) (entries l.given)) l.g;
}

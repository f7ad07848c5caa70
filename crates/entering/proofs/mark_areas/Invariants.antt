use Rattle.std.proofs.Common.{◌+◌, ◌^◌}
use Rattle.limits.specs.Ranges.{recorded_days}
use Rattle.marking.specs.Marked.{marked_from}
use Rattle.recording.proofs.AllMarked.{SoFar}
use Rattle.entering.proofs.mark_areas.Given as goal

abbrev pub invariant-loop-k : goal.invariant-loop-k
invariant-loop-k l = SoFar l.fn.given (marked_from l.file 0 l.k) (2 ^ recorded_days + l.k) l.so_far

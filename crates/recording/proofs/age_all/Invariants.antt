use Rattle.std.proofs.Common.{◌≡◌, take}
use Rattle.recording.specs.Record.{record_of, kept}
use Rattle.recording.proofs.age_all.Given as goal

abbrev pub invariant-loop-p : goal.invariant-loop-p
invariant-loop-p l = l.out ≡ record_of l.date (kept l.g (take l.p-index l.p-items))

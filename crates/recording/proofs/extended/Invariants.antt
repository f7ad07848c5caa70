use Rattle.std.proofs.Common.{◌≡◌, ◌++◌, take}
use Rattle.recording.specs.Record.{entries, record_of}
use Rattle.recording.proofs.extended.Given as goal

abbrev pub invariant-loop-p : goal.invariant-loop-p
invariant-loop-p l = l.longer ≡ record_of l.fn.onto.last (entries l.fn.onto ++ take l.p-index l.places)

use Rattle.std.proofs.Common.{◌≡◌, drop}
use Rattle.record_check.specs.Left.{unused_empty}
use Rattle.record_check.proofs.unused_empty.Given as goal

abbrev pub invariant-loop-p : goal.invariant-loop-p
invariant-loop-p l = unused_empty l.unused ≡ unused_empty (drop l.p-index l.unused)

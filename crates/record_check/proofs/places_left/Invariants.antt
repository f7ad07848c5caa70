use Rattle.std.proofs.Common.{◌≡◌, drop}
use Rattle.record_check.specs.Left.{places_left}
use Rattle.record_check.proofs.places_left.Given as goal

abbrev pub invariant-loop-p : goal.invariant-loop-p
invariant-loop-p l = places_left l.end 1 l.held ≡ places_left l.end l.low (drop l.p-index l.held)

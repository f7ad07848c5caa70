use Rattle.hour_glance.specs.Joined.{JoinedFrom}
use Rattle.hour_glance.proofs.intervals_joined.Given as goal

abbrev pub invariant-loop-i : goal.invariant-loop-i
invariant-loop-i l = JoinedFrom l.body l.from l.i l.quantities l.prices

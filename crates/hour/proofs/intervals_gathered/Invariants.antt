use Rattle.std.proofs.Common.{◌≤◌}
use Rattle.hour.specs.Gathered.{GatheredFrom}
use Rattle.hour.proofs.intervals_gathered.Given as goal

abbrev pub invariant-loop-i : goal.invariant-loop-i
invariant-loop-i l = record {
  few : l.priced ≤ l.i;
  gathered : GatheredFrom l.body l.from l.i l.gathered l.priced l.quantities;
}

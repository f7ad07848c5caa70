use Rattle.std.proofs.Common.{◌≡◌}
use Rattle.marks.specs.Marks.{aged}
use Rattle.marks.proofs.age.Given as goal

abbrev pub invariant-loop : goal.invariant-loop
invariant-loop l = l.left ≡ aged l.marks l.counter

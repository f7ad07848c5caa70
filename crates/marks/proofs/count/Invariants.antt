use Rattle.std.proofs.Common.{◌≡◌, ◌/◌, ◌^◌}
use Rattle.marks.specs.Marks.{bits_below}
use Rattle.marks.proofs.count.Given as goal

abbrev pub invariant-loop : goal.invariant-loop
invariant-loop l = (l.set ≡ bits_below l.marks l.counter) × (l.left ≡ l.marks / 2 ^ l.counter)

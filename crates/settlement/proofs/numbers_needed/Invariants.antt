use Rattle.std.proofs.Common.{◌≡◌}
use Rattle.settlement.specs.Settlement.{needed_to}
use Rattle.settlement.proofs.numbers_needed.Given as goal

abbrev pub invariant-loop-k : goal.invariant-loop-k
invariant-loop-k l = l.needed ≡ needed_to l.file l.k

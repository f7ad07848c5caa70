use Rattle.std.proofs.Common.{◌≡◌, ◌*◌, ◌≤◌}
use Rattle.limits.specs.Ranges.{most_quantity}
use Rattle.price.specs.Price.{average_of}
use Rattle.price.specs.Sums.{average_from}
use Rattle.price.proofs.averaged.Given as goal

abbrev pub invariant-loop-i : goal.invariant-loop-i
invariant-loop-i l = record {
  average : average_from l.sums ≡ average_of l.pairs l.i;
  value : l.sums.value.0 ≤ most_quantity * 4294967295 * l.i;
}

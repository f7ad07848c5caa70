use Rattle.std.proofs.Common.{◌≡◌, ◌*◌, ◌≤◌}
use Rattle.exact.specs.Total.{total}
use Rattle.words.specs.Bytes.{words_from}
use Rattle.hour.proofs.demand_sum.Given as goal

abbrev pub invariant-loop-i : goal.invariant-loop-i
invariant-loop-i l = record {
  added : l.sum ≡ total (words_from l.body l.from l.i);
  within : l.sum ≤ 4294967295 * l.i;
}

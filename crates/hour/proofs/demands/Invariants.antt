use Rattle.std.proofs.Common.{◌≡◌, ◌-◌, ◌≤◌}
use Rattle.exact.specs.Total.{total}
use Rattle.words.specs.Bytes.{words_from}
use Rattle.limits.specs.Ranges.{most_demand}
use Rattle.verdict.specs.First.{scan}
use Rattle.hour.specs.Check.{demand_rule_at, demands_rule}
use Rattle.hour.proofs.demands.Given as goal

abbrev pub invariant-loop-i : goal.invariant-loop-i
invariant-loop-i l = record {
  added : l.running ≡ total (words_from l.body l.from l.i);
  within : l.running ≤ most_demand;
  rest : demands_rule l.start l.body l.from l.count ≡ scan (demand_rule_at l.start l.body l.from) l.i (l.count - l.i);
}

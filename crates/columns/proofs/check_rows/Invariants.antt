-- The rows so far are accepted, so that the running demand is within its bound.
use Rattle.std.proofs.Common.{◌≡◌, ◌≤◌, ◌-◌, length, take}
use Rattle.verdict.specs.First.{scan}
use Rattle.exact.specs.Total.{total}
use Rattle.limits.specs.Ranges.{most_demand}
use Rattle.columns.specs.Columns.{coordinator_above, row_rule_at}
use Rattle.columns.proofs.check_rows.Given as goal

abbrev pub invariant-loop-i : goal.invariant-loop-i
invariant-loop-i l = record {
  last : l.before ≡ coordinator_above l.coordinators l.i;
  so_far : l.running ≡ total (take l.i l.demands);
  bounded : l.running ≤ most_demand;
  rest : scan (row_rule_at l.coordinators l.demands) 0 (length l.demands) ≡ scan (row_rule_at l.coordinators l.demands) l.i (length l.demands - l.i);
}

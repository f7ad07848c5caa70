use Rattle.std.proofs.Common.{◌≡◌, ◌*◌, ◌++◌, drop, length}
use Rattle.limits.specs.Ranges.{most_coordinators}
use Rattle.statement.specs.Block.{area_numbers}
use Rattle.settlement.specs.Settlement.{needed_to, statement_to, listed}
use Rattle.settlement.proofs.write_areas.Given as goal

abbrev pub invariant-loop-k : goal.invariant-loop-k
invariant-loop-k l = record {
  next : l.to ≡ needed_to l.file l.k;
  written : l.statement ≡ statement_to (listed l.days l.file) l.file l.k ++ drop l.to l.initial.statement;
  same_length : length l.statement ≡ length l.initial.statement;
  room : length l.room ≡ 8 * area_numbers most_coordinators;
}

use Rattle.std.proofs.Common.{◌≡◌, ◌*◌, ◌++◌, length, drop}
use Rattle.encoding.specs.Encoding.{encoded}
use Rattle.settlement.specs.Settlement.{needed_to, statement_to, days_by, own_days}
use Rattle.rse8080.proofs.put_areas.Given as goal

abbrev pub invariant-loop-k : goal.invariant-loop-k
invariant-loop-k l = record {
  next : l.to ≡ 8 * needed_to l.file l.k;
  written : l.bytes ≡ encoded (statement_to (days_by own_days l.file) l.file l.k) ++ drop l.to l.initial.bytes;
  same_length : length l.bytes ≡ length l.initial.bytes;
}

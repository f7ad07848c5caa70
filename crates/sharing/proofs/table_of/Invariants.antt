-- The first i rows are copied into the two columns.
use Rattle.sharing.proofs.Columns.{Copied}
use Rattle.sharing.proofs.table_of.Given as goal

abbrev pub invariant-loop-i : goal.invariant-loop-i
invariant-loop-i l = record {
  coordinators_copied : Copied (λ row. row.coordinator) l.rows l.coordinators l.i;
  demands_copied : Copied (λ row. row.demand) l.rows l.demands l.i;
}

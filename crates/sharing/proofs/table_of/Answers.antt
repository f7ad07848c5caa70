-- A turn copies the next row into each column, and after the last turn the columns are those of the rows.
use Rattle.std.proofs.Common.{◌≡◌, ◌<◌, arith}
use Rattle.sharing.specs.Rows.{coordinator_column, demand_column}
use Rattle.sharing.specs.Columns.{empty_column, column}
use Rattle.sharing.proofs.Columns.{copies, copied_none, copied_next, copied_all}
use Rattle.sharing.proofs.table_of.Goals as goal

pub loop-i-init : goal.loop-i-init
unfolding empty_column
loop-i-init c = record {
  coordinators_copied = copied_none (λ row. row.coordinator) c.args.rows.now;
  demands_copied = copied_none (λ row. row.demand) c.args.rows.now;
}

pub loop-i-preserved : goal.loop-i-preserved
loop-i-preserved c =
    let there : c.loop-i.i < copies c.args.rows.now = omega arith in
    record {
      coordinators_copied = copied_next (λ row. row.coordinator) c.args.rows.now _ _ c.loop-i.invariant.coordinators_copied there;
      demands_copied = copied_next (λ row. row.demand) c.args.rows.now _ _ c.loop-i.invariant.demands_copied there;
    }

pub returns : goal.returns
returns c =
    let all : c.loop-i.i ≡ copies c.args.rows.now = omega arith in
    let coordinators : c.loop-i.coordinators ≡ column (coordinator_column c.args.rows.now) = copied_all (λ row. row.coordinator) c.args.rows.now _ _ c.loop-i.invariant.coordinators_copied all in
    let demands : c.loop-i.demands ≡ column (demand_column c.args.rows.now) = copied_all (λ row. row.demand) c.args.rows.now _ _ c.loop-i.invariant.demands_copied all in
    cc

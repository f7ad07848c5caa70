-- What the copied table is answered is what the rows are answered.
use mir.Syntax.{w64}
use mir.ValLaws.{to_z-of_z}
use Rattle.sharing.proofs.Columns.{as_rows}
use Rattle.sharing.proofs.share.Goals as goal

pub returns : goal.returns
returns c =
    let amount = to_z-of_z w64 c.args.amount c.ranges.amount in
    as_rows c.args.rows.now c.args.amount c.args.charges.now c.table_of.result c.share_table.result c.share_table.new.charges c.table_of.ensures
    (rw amount at c.share_table.ensures)

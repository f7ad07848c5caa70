-- As many rows are lent as `take n rows` has: n of them, or all that the array holds.
use Rattle.std.proofs.Common.{◌≡◌, min, length, take, arith, rules}
use Rattle.std.proofs.lemmas.List.{take_min}
use mir.Syntax.{w64}
use mir.ValLaws.{to_z-of_z}
use Rattle.sharing.specs.Rows.{rows_by_value}
use Rattle.sharing.proofs.share_array.Goals as goal

pub returns : goal.returns
returns c =
    let amount = to_z-of_z w64 c.args.amount c.ranges.amount in
    let held : length c.args.rows ≡ rows_by_value = search rules in
    let lent : c.min-lent.result ≡ min c.args.n (length c.args.rows) = omega arith in
    let same : take c.min-lent.result c.args.rows ≡ take c.args.n c.args.rows = rw lent (take_min c.args.n c.args.rows) in
    rw (amount, same) at c.share.ensures

use Rattle.std.proofs.Common.{◌≡◌, ◌+◌, ◌*◌, arith, get_or, rules}
use lib.IntN.{pos}
use lib.ListN.{drop_of_length-le}
use mir.Syntax.{w64}
use mir.ValLaws.{to_z-of_z}
use Rattle.exact.proofs.Filling.{drop_next}
use Rattle.limits.specs.Ranges.{day_payments}
use Rattle.paying.specs.Columns.{put_column}
use Rattle.paying.proofs.put_column.Goals as goal

pub loop-k-preserved : goal.loop-k-preserved
unfolding put_column
loop-k-preserved c =
    let a = c.args in
    let l = c.loop-k in
    let back = to_z-of_z w64 (get_or a.numbers.now l.k (pos 0)) (search rules) in
    let place : day_payments * (l.k + 1) + a.j ≡ day_payments * l.k + a.j + day_payments = omega arith in
    rw (back, place) (rw (drop_next a.numbers.now l.k (pos 0) c.loop-k-test.true) at l.invariant)

pub returns : goal.returns
unfolding put_column
returns c = rw (drop_of_length-le c.args.numbers.now {i = c.loop-k.k} c.loop-k-test.false) at c.loop-k.invariant

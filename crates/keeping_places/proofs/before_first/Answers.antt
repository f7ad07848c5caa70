use Rattle.std.proofs.Common.{◌≡◌, true, false, sym, ◌∙◌, arith}
use Rattle.book.specs.Read.{date_at}
use Rattle.keeping_places.proofs.Scan.{scan_next, scan_stop, scan_end}
use Rattle.keeping_places.proofs.before_first.Goals as goal

pub returns-then-meets : goal.returns-then-meets
returns-then-meets g c test is =
    let l = c.loop-k in
    let room = c.args.room.now in
    let there : test (date_at room l.k) ≡ true = rw c.word.ensures at (sym (is _ true c.if-meets.ensures)) in
    sym (l.invariant test is ∙ scan_stop room test l.k c.args.n there (omega arith))

pub loop-k-preserved : goal.loop-k-preserved
loop-k-preserved g c test is =
    let l = c.loop-k in
    let room = c.args.room.now in
    let not_there : test (date_at room l.k) ≡ false = rw c.word.ensures at (sym (is _ false c.if-meets.ensures)) in
    l.invariant test is ∙ scan_next room test l.k c.args.n not_there (omega arith)

pub returns : goal.returns
returns g c test is = let l = c.loop-k in sym (l.invariant test is ∙ scan_end c.args.room.now test l.k c.args.n (omega arith))

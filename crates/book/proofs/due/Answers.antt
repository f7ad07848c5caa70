-- The first file is due behind the contents, each other where the one before it ends.
use Rattle.std.proofs.Common.{◌≡◌, suc, ◌-◌, ap, arith}
use Rattle.book.specs.Read.{due_at}
use Rattle.book.proofs.Places.{due_first, due_next}
use Rattle.book.proofs.due.Goals as goal

pub returns-then-k-eq0 : goal.returns-then-k-eq0
returns-then-k-eq0 c = omega (arith, due_first c.args.book.now, ap (due_at c.args.book.now) c.if-k-eq0.true)

pub returns : goal.returns
returns c =
    let book = c.args.book.now in
    let k : suc (c.args.k - 1) ≡ c.args.k = omega arith in
    omega (arith, due_next book c.requires.1 (c.args.k - 1) (omega arith), ap (due_at book) k)

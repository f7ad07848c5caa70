use Rattle.std.proofs.Common.{◌≡◌, ℕ, ◌+◌, ◌*◌, ◌∙◌, ap, arith, take, get_or}
use lib.Seq.{take_at}
use Rattle.exact.proofs.Filling.{fill_step, fill_end}
use Rattle.limits.specs.Ranges.{day_payments}
use Rattle.paying.specs.Columns.{column}
use Rattle.paying.proofs.Columns.{each_next, each_done, each_length}
use Rattle.paying.proofs.basis_column.Goals as goal

pub loop-k-preserved : goal.loop-k-preserved
loop-k-preserved c =
    let a = c.args in
    fill_step _ (rw (each_next (λ k. get_or a.bases.now (day_payments * k + a.j) 0) c.loop-k.k a.n c.loop-k-test.true) at c.loop-k.invariant)
    (omega (arith, c.requires.0, c.loop-k.invariant.kept))

pub returns : goal.returns
returns c =
    let a = c.args in
    let l = c.loop-k in
    let e : l.k ≡ a.n = omega arith in
    let numbers : ℕ → ℕ = λ k. get_or a.bases.now (day_payments * k + a.j) 0 in
    ap (take a.n) (rw e at (fill_end (rw (each_done numbers l.k a.n c.loop-k-test.false) at l.invariant)))
    ∙ take_at (column 0 a.bases.now a.n a.j) _ a.n (each_length numbers 0 a.n)

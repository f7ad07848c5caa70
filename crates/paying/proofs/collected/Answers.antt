use Rattle.std.proofs.Common.{◌≡◌, ℕ, ◌+◌, ◌*◌, ◌≤◌, ◌∙◌, ap, sym, arith, get_or}
use lib.IntN.{ℤ, pos, nat_abs, ◌+ℤ◌, +ℤ_idr}
use mir.Syntax.{w64}
use mir.Val.{to_z, of_z}
use mir.ValLaws.{to_z-of_z}
use Rattle.exact.proofs.Magnitude.{abs_add}
use Rattle.exact.proofs.Machine.{within}
use Rattle.limits.specs.Ranges.{day_payments}
use Rattle.shares.specs.Shares.{sum}
use Rattle.paying.specs.Ranges.{most_collected}
use Rattle.paying.proofs.Columns.{each_done, next_sum}
use Rattle.paying.proofs.collected.Goals as goal

pub loop-k-preserved : goal.loop-k-preserved
loop-k-preserved c =
    let a = c.args in
    let l = c.loop-k in
    let below = c.loop-k-test.true in
    let numbers : ℕ → ℤ = λ k. get_or a.payments.now (day_payments * k + a.j) (pos 0) in
    let before = to_z w64 l.sum-bits in
    let back : to_z w64 (of_z w64 (numbers l.k)) ≡ numbers l.k = to_z-of_z w64 _ (within w64 _ (omega (arith, c.requires.each _ below))) in
    let small : nat_abs (before +ℤ numbers l.k) ≤ most_collected * (l.k + 1) =
    omega (arith, abs_add before (numbers l.k), l.invariant.small, c.requires.each _ below) in
    let stored : to_z w64 (of_z w64 (before +ℤ to_z w64 (of_z w64 (numbers l.k)))) ≡ before +ℤ numbers l.k =
    ap (λ z. to_z w64 (of_z w64 (before +ℤ z))) back ∙ to_z-of_z w64 _ (within w64 _ (omega (arith, small, c.requires.few))) in
    record { small = rw stored small; left = rw stored (next_sum numbers l.k a.n before below l.invariant.left) }

pub returns : goal.returns
unfolding sum
returns c =
    let a = c.args in
    let l = c.loop-k in
    sym (+ℤ_idr (to_z w64 l.sum-bits)) ∙ rw (each_done (λ k. get_or a.payments.now (day_payments * k + a.j) (pos 0)) l.k a.n c.loop-k-test.false) at l.invariant.left

use Rattle.std.proofs.Common.{◌≡◌, ◌+◌, ◌*◌, ◌∙◌, sym, ap, arith, get_or, take}
use lib.IntN.{pos}
use mir.Syntax.{w64}
use Rattle.exact.proofs.Machine.{got, zero_bits}
use Rattle.limits.specs.Ranges.{day_payments}
use Rattle.limits.specs.Editions.{most_areas}
use Rattle.shares.specs.Shares.{sum}
use Rattle.paying.specs.Columns.{column, put_column}
use Rattle.paying.proofs.Columns.{each_length}
use Rattle.paying.proofs.Payments.{room, room_front, paid_nothing}
use Rattle.paying.proofs.Sizes.{collected_small, payment_fits}
use Rattle.paying.proofs.pay_column.Goals as goal
use Rattle.paying.proofs.pay_column.Goals.{then-amount-eq0, else-amount-eq0}

pub paid-numbers-requires : goal.paid-numbers-requires
paid-numbers-requires c =
    let a = c.args in
    let p = c.requires.1 in
    let collected = sum (column (pos 0) a.payments.now a.n a.j) in
    rw (got w64 c.collected-amount.type_inv c.collected-amount.ensures, c.basis_column.ensures) (
      payment_fits collected _ (collected_small a.payments.now a.n a.j p.collected) p.basis,
      (omega (arith, p.basis), rw (each_length (λ k. get_or a.bases.now (day_payments * k + a.j) 0) 0 a.n) p.areas),
    )

pub returns : goal.returns
returns c =
    let a = c.args in
    let amount = got w64 c.collected-amount.type_inv c.collected-amount.ensures in
    let count = each_length (λ k. get_or a.bases.now (day_payments * k + a.j) 0) 0 a.n in
    c.put_column.ensures
    ∙ ap (λ l. put_column a.j l a.payments.now) (elim c.if-amount-eq0.branch [
      | then-amount-eq0 w ↦
          let none : sum (column (pos 0) a.payments.now a.n a.j) ≡ pos 0 =
          sym c.collected-amount.ensures ∙ zero_bits (record { sfits = c.collected-amount.type_inv }) w.if-amount-eq0.true in
          ap (take (a.n + 1)) w.numbers-is ∙ room_front (a.n + 1) (most_areas + 1) (omega (arith, c.requires.1.areas))
          ∙ sym (rw none (paid_nothing (column 0 a.bases.now a.n a.j) ∙ ap (λ n. room (n + 1)) count))
      | else-amount-eq0 w ↦ ap (take (a.n + 1)) w.numbers-is ∙ rw (w.basis_column.ensures, count, amount) at w.paid-numbers.ensures
    ])

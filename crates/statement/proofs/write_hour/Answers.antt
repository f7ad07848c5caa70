use Rattle.std.proofs.Common.{◌≡◌, ℕ, ◌+◌, ◌*◌, ◌≤◌, List, ◌++◌, ℤ, nat_abs, drop, refl, ap, ◌∙◌, arith, length-take, length-drop}
use Rattle.limits.specs.Ranges.{most_amount}
use Rattle.encoding.specs.Encoding.{encoded}
use Rattle.encoding.proofs.Encoding.{bytes_more, encoded_length}
use Rattle.body.specs.Layout.{kind_of, points_of, coordinators_of}
use Rattle.amounts.proofs.AmountSizes.{amount_back, amount_small, amount_is, amounts_ranged}
use Rattle.statement.specs.Block.{amounts_shown, hour_numbers, charges_from, shown_of, amounts_at, charges_at, hour_block}
use Rattle.statement.proofs.Demands.{demands_ranged}
use Rattle.statement.proofs.write_hour.Goals as goal

pub put_amounts-requires : goal.put_amounts-requires
put_amounts-requires c =
    let k = c.args.hour.stands in
    (amounts_ranged c.args.hour.terms c.args.hour.body.now c.args.hour.h _ c.amounts-amounts.ensures k.sound k.below k.kept, omega arith)

pub amount_of-amount-requires : goal.amount_of-amount-requires
amount_of-amount-requires c =
    let k = c.args.hour.stands in
    amounts_ranged c.args.hour.terms c.args.hour.body.now c.args.hour.h _ c.amounts-amounts.ensures k.sound k.below k.kept

pub hour_charges-requires : goal.hour_charges-requires
hour_charges-requires c =
    let a = c.args in
    let b = a.hour.body.now in
    let k = c.args.hour.stands in
    let amount = amount_is a.hour.terms b a.hour.h _ c.amounts-amounts.ensures _ c.amount_of-amount.ensures in
    let small : nat_abs c.amount_of-amount.result.0 ≤ most_amount = rw amount (amount_small b k.sound a.hour.h k.below a.hour.terms k.kept) in (
      rw (amount_back _ small) small,
      (rw k.here (demands_ranged b k.sound a.hour.h k.below), simp (length-take, length-drop) (omega arith)),
    )

-- the charges of an amount and a place that are those of the hour
charged : (b : List ℕ) (z m : ℤ) (at here : ℕ) → z ≡ m → at ≡ here
    → charges_from (kind_of b) z b (at + 8 + 24 * points_of b) (coordinators_of b) ≡ charges_from (kind_of b) m b (here + 8 + 24 * points_of b) (coordinators_of b)
charged b z m at here e f = rw (e, f)

pub returns : goal.returns
unfolding hour_block
returns c =
    let a = c.args in
    let b = a.hour.body.now in
    let k = c.args.hour.stands in
    let amount = amount_is a.hour.terms b a.hour.h _ c.amounts-amounts.ensures _ c.amount_of-amount.ensures in
    let small : nat_abs c.amount_of-amount.result.0 ≤ most_amount = rw amount (amount_small b k.sound a.hour.h k.below a.hour.terms k.kept) in
    let put : c.put_amounts.new.block ≡ encoded (amounts_at a.hour.terms b a.hour.h) ++ drop (8 * amounts_shown) a.block.now
    = c.put_amounts.ensures ∙ ap (λ m. encoded (shown_of m) ++ drop (8 * amounts_shown) a.block.now) c.amounts-amounts.ensures in
    let size : 8 * amounts_shown + 8 * coordinators_of b ≡ 8 * hour_numbers (coordinators_of b) = omega arith in
    rw (← size)
    (bytes_more (amounts_at a.hour.terms b a.hour.h) (charges_at a.hour.terms b a.hour.h) _ a.block.now _ _ (8 * amounts_shown) (8 * coordinators_of b) refl
    (encoded_length (amounts_at a.hour.terms b a.hour.h)) put (rw (charged b _ _ _ _ (amount_back _ small ∙ amount) k.here) at c.hour_charges.ensures))

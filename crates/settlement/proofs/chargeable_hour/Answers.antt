use Rattle.std.proofs.Common.{◌≡◌, ℕ, ◌+◌, ◌*◌, ◌<◌, ◌≤◌, List, Bool, true, false, not, ◌||◌, eqb, ltb, nat_abs, refl, sym, ap₂, ◌∙◌, eq-eqb, ne_eqb, arith}
use borrow.Author.Tests.{lt-ltb}
use Rattle.exact.specs.Total.{total}
use Rattle.words.specs.Bytes.{words_from}
use Rattle.limits.specs.Ranges.{most_amount}
use Rattle.body.specs.Layout.{demands_of, demands_at, coordinators_of, kind_of}
use Rattle.amounts.specs.Amounts.{amount_at}
use Rattle.amounts.proofs.AmountSizes.{amount_back, amount_small, amount_is, amounts_ranged}
use Rattle.settlement.specs.Settlement.{chargeable}
use Rattle.settlement.proofs.Hours.{hour_demands}
use Rattle.settlement.proofs.chargeable_hour.Goals as goal

or_true : (a b : Bool) → b ≡ true → (a || b) ≡ true
or_true true b e = refl
or_true false b e = e

-- the demands that were added are those of the hour
demand_is : (body : List ℕ) (h from count sum : ℕ) → sum ≡ total (words_from body from count) → from ≡ demands_at body h → count ≡ coordinators_of body
    → sum ≡ total (demands_of body h)
demand_is body h from count sum added e f = added ∙ ap₂ (λ at n. total (words_from body at n)) e f

pub returns-then-word-ne1 : goal.returns-then-word-ne1
unfolding chargeable
returns-then-word-ne1 c = rw (ne_eqb _ _ (λ q. c.if-word-ne1.true (c.word.ensures ∙ q)))

pub overflow_add-hour : goal.overflow_add-hour
overflow_add-hour c = omega (arith, (hour_demands c.args.hour.stands).room)

pub overflow_add-hour-2 : goal.overflow_add-hour-2
overflow_add-hour-2 c = omega (arith, (hour_demands c.args.hour.stands).room, c.word-load.ensures)

pub sum_of_words-demand-requires : goal.sum_of_words-demand-requires
sum_of_words-demand-requires c =
    let demands = hour_demands c.args.hour.stands in
    rw (c.word-load.ensures, c.word-count.ensures) (demands.room, demands.sum)

pub returns-then-demand-gt0 : goal.returns-then-demand-gt0
unfolding chargeable
returns-then-demand-gt0 c =
    let hour = c.args.hour in
    let b = hour.body.now in
    let from = ap₂ (λ at load. at + 8 + 24 * load) hour.stands.here c.word-load.ensures in
    let demand = demand_is b hour.h _ _ _ c.sum_of_words-demand.ensures from c.word-count.ensures in
    let some : 0 < total (demands_of b hour.h) = omega (arith, demand, c.if-demand-gt0.true) in
    sym (or_true (not (eqb (kind_of b) 1)) _ (or_true (eqb (nat_abs (amount_at hour.terms b hour.h)) 0) _ (lt-ltb _ _ some)))

pub amount_of-amount-requires : goal.amount_of-amount-requires
amount_of-amount-requires c =
    let hour = c.args.hour in
    let k = hour.stands in
    amounts_ranged hour.terms hour.body.now hour.h _ c.amounts.ensures k.sound k.below k.kept

pub returns : goal.returns
unfolding chargeable
returns c =
    let hour = c.args.hour in
    let b = hour.body.now in
    let k = hour.stands in
    let kind : kind_of b ≡ 1 = sym c.word.ensures ∙ c.if-word-ne1.false in
    let from = ap₂ (λ at load. at + 8 + 24 * load) k.here c.word-load.ensures in
    let demand = demand_is b hour.h _ _ _ c.sum_of_words-demand.ensures from c.word-count.ensures in
    let z = c.amount_of-amount.result.0 in
    let there = amount_is hour.terms b hour.h _ c.amounts.ensures _ c.amount_of-amount.ensures in
    let small : nat_abs z ≤ most_amount = rw there (amount_small b k.sound hour.h k.below hour.terms k.kept) in
    c.shareable.ensures
    ∙ ap₂ (λ x t. eqb (nat_abs x) 0 || ltb 0 t) (amount_back z small ∙ there) demand
    ∙ rw (eq-eqb _ _ kind)

use Rattle.std.proofs.Common.{◌≡◌, ℕ, suc, ◌*◌, ◌/◌, ◌≤◌, ◌<◌, ◌^◌, refl, sym, ap, ◌∙◌, arith, true, false}
use native.Mathlib.Nat.{zero-mul, mul-le-mul_left, div-mul-le_self, le-mul_of_pos_right, mod-lt}
use borrow.Author.Tests.{ltb-true}
use lib.IntN.{ℤ, pos, negsuc, neg_ℤ, nat_abs, ◌-ℤ◌, ◌*ℤ◌, +ℤ_idl}
use lib.Signed.{lt_z}
use mir.Syntax.{w64}
use mir.Val.{SFits, to_z}
use mir.ValLaws.{to_z-of_z, to_z_pos}
use Rattle.exact.specs.Round.{round_div, half_up}
use Rattle.exact.proofs.Magnitude.{abs_mul}
use Rattle.exact.proofs.Machine.{within, zero_bits}
use Rattle.exact.proofs.Round.{round_zero, round_neg, round_exact, abs_round}
use Rattle.shares.specs.Shares.{up_to}
use Rattle.shares.specs.Rates.{rates_of}
use Rattle.shares.proofs.ByRates.{by_rates}
use Rattle.shares.proofs.NoDemand.{round_by_zero}
use Rattle.shares.proofs.up_to.Goals as goal
use Rattle.shares.proofs.up_to.Goals.{then-whole-eq0-via-then-whole-eq0, then-whole-eq0-via-else-whole-eq0+then-amount-eq0}

zero_times : (n : ℕ) → pos 0 *ℤ pos n ≡ pos 0
zero_times n = ap pos (zero-mul n)

-- R by the size of the amount, and by its sign
below : (amount : ℤ) (t c : ℕ) → lt_z amount (pos 0) ≡ true → pos 0 -ℤ pos (half_up (nat_abs amount * c) t) ≡ up_to amount t c
unfolding round_div
below (pos a) t c e = absurd (omega (arith, ltb-true a 0 e))
below (negsuc a) t c e = +ℤ_idl (neg_ℤ (pos (half_up (suc a * c) t))) ∙ sym (round_neg (pos (suc a * c)) t)

above : (amount : ℤ) (t c : ℕ) → lt_z amount (pos 0) ≡ false → pos (half_up (nat_abs amount * c) t) ≡ up_to amount t c
unfolding round_div
above (pos a) t c e = refl
above (negsuc a) t c e = absurd cc

-- what R is rounded from fits, and so does R
module _ (amount : ℤ) (t c : ℕ) (inside : c ≤ t) (small : nat_abs amount * t < 2 ^ 63) where
  product-fits : nat_abs amount * c < 2 ^ 63
  product-fits = omega (arith, mul-le-mul_left (nat_abs amount) inside)

  result_fits : SFits w64 (up_to amount t c)
  result_fits = within w64 _ (omega (arith, product-fits, abs_round (amount *ℤ pos c) t, abs_mul amount (pos c)))

  -- R by the size of the amount
  module _ (next : ℕ) (is : next ≡ half_up (nat_abs amount * c) t) where
    next_small : next < 2 ^ 63
    unfolding round_div
    next_small = omega (arith, is, product-fits, abs_round (pos (nat_abs amount * c)) t)

    next-back : to_z w64 next ≡ pos (half_up (nat_abs amount * c) t)
    next-back = to_z_pos w64 _ next_small ∙ ap pos is

    turned : lt_z amount (pos 0) ≡ true → pos 0 -ℤ to_z w64 next ≡ up_to amount t c
    turned e = rw next-back (below amount t c e)

rates-are : (c : goal.In-Some) → c.in-Some.rates ≡ rates_of c.args.amount c.args.whole
rates-are c = rw c.in-Some.is at c.requires.0

next-is : (c : goal.After-nearest-next) → c.nearest-next.result ≡ half_up (nat_abs c.args.amount * c.args.running) c.args.whole
unfolding rates_of
next-is c =
    rw (rates-are c.before) at c.nearest-next.ensures
    ∙ by_rates (nat_abs c.args.amount) c.args.whole c.args.running (omega (arith, c.if-whole-eq0.false))

pub returns-then-whole-eq0 : goal.returns-then-whole-eq0
returns-then-whole-eq0 c =
    elim c.then-whole-eq0.branch [
      | then-whole-eq0-via-then-whole-eq0 w ↦ rw (w.if-whole-eq0.true, round_by_zero)
      | then-whole-eq0-via-else-whole-eq0+then-amount-eq0 w ↦
          rw (zero_bits c.ranges.amount w.if-amount-eq0.true, zero_times c.args.running) (sym (round_zero c.args.whole))
    ]

pub returns-then-running-whole : goal.returns-then-running-whole
returns-then-running-whole c =
    let some : 0 < c.args.whole = omega (arith, c.if-whole-eq0.false) in
    to_z-of_z w64 _ c.ranges.amount ∙ sym (rw c.if-running-whole.true (round_exact c.args.amount c.args.whole some))

pub times-requires : goal.times-requires
times-requires c =
    rw (to_z-of_z w64 _ c.ranges.amount)
    (within w64 _ (rw (abs_mul c.args.amount (pos c.args.running)) (product-fits c.args.amount c.args.whole c.args.running c.requires.1.0 c.requires.1.1.1)))

pub nearest-next-requires-clause-rates_of_whole : goal.nearest-next-requires-clause-rates_of_whole
unfolding rates_of
nearest-next-requires-clause-rates_of_whole c =
    let a = nat_abs c.args.amount in
    let t = c.args.whole in
    let some : 0 < t = omega (arith, c.if-whole-eq0.false) in
    let cents : a / t * t < 2 ^ 63 = omega (arith, div-mul-le_self a t, le-mul_of_pos_right a some, c.requires.1.1.1) in
    rw (rates-are c) (cents, (mod-lt a some, refl))

pub overflow_cast-next : goal.overflow_cast-next
overflow_cast-next c =
    within w64 _ (next_small c.args.amount c.args.whole c.args.running c.requires.1.0 c.requires.1.1.1 c.nearest-next.result (next-is c))

turned-is : (c : goal.Then-amount-lt0) → pos 0 -ℤ to_z w64 c.nearest-next.result ≡ up_to c.args.amount c.args.whole c.args.running
turned-is c =
    turned c.args.amount c.args.whole c.args.running c.requires.1.0 c.requires.1.1.1 c.nearest-next.result (next-is c.before)
    (rw (to_z-of_z w64 _ c.ranges.amount) at c.if-amount-lt0.true)

pub overflow_sub-result : goal.overflow_sub-result
overflow_sub-result c = rw (turned-is c) (result_fits c.args.amount c.args.whole c.args.running c.requires.1.0 c.requires.1.1.1)

pub returns-then-amount-lt0 : goal.returns-then-amount-lt0
returns-then-amount-lt0 c =
    rw (turned-is c) (to_z-of_z w64 _ (result_fits c.args.amount c.args.whole c.args.running c.requires.1.0 c.requires.1.1.1))

pub returns : goal.returns
returns c =
    next-back c.args.amount c.args.whole c.args.running c.requires.1.0 c.requires.1.1.1 c.nearest-next.result (next-is c.before)
    ∙ above c.args.amount c.args.whole c.args.running (rw (to_z-of_z w64 _ c.ranges.amount) at c.if-amount-lt0.false)

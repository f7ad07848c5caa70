-- What an hour of a sound body shows is within what can be shared.
use Prim.Native.Nat.{ℕ, ◌≤◌, ◌<◌, zero-le}
use mathlib.Core.Bool.{Bool, true, false, cond, not, ◌&&◌}
use mathlib.Core.List.{List}
use mathlib.Core.Path.{◌≡◌, ap, ◌∙◌}
use native.Mathlib.Omega.{arith}
use lib.Dec.{eqb}
use lib.IntN.{ℤ, pos, nat_abs, ◌+ℤ◌}
use mir.Syntax.{w64}
use mir.Val.{SFits, to_z, of_z}
use mir.ValLaws.{to_z-of_z}
use Rattle.exact.proofs.Magnitude.{abs_add}
use Rattle.exact.proofs.Machine.{within}
use Rattle.limits.specs.Ranges.{day_hours, most_market_price, most_amount, proved_points}
use Rattle.body.specs.Layout.{flag_of, hour_at}
use Rattle.body.specs.Kept.{Sound}
use Rattle.body.proofs.Kept.{always}
use Rattle.price.proofs.Answers.{price_within}
use Rattle.surcharge.specs.declared.Terms.{Terms}
use Rattle.surcharge.specs.Ranges.{TermsKept, most_surcharge}
use Rattle.surcharge.specs.Surcharge.{peak_hour, on_peak_of, off_peak_of}
use Rattle.amounts.specs.declared.Amounts.{Amounts}
use Rattle.amounts.specs.Ranges.{AmountsRanged}
use Rattle.amounts.specs.Amounts.{upward_at, tier_at, day_tier, day_upward, day_surcharge, hour_price, price_from, on_peak_at_price, off_peak_at_price}
use Rattle.amounts.specs.Amounts.{on_peak_amount, off_peak_amount, downward_amount, surcharge_hour, surcharge_at, credit_at_price, credit_at, amount_at}
use Rattle.amounts.specs.Amounts.{price_needed, needed_price, amounts_of}
use Rattle.surcharge.proofs.Sizes.{most_on_peak_amount, most_off_peak_amount, most_downward_amount, on_peak_small, off_peak_small, downward_small}
use Rattle.surcharge.proofs.Sizes.{surcharge_small, surcharge_in_cents_small, credit_in_cents_small}
use Rattle.amounts.proofs.Quantities as Q
use Rattle.amounts.proofs.Hours.{hour_ranged, pairs_ranged, most_small, hub_small}

-- what can be shared fits 64 bits, and is read back from them
pub amount_fits : (z : ℤ) → nat_abs z ≤ most_amount → SFits w64 z
amount_fits z h = within w64 z (omega arith)

pub amount_back : (z : ℤ) → nat_abs z ≤ most_amount → to_z w64 (of_z w64 z) ≡ z
amount_back z h = to_z-of_z w64 z (amount_fits z h)

-- of an amount that is made in some hours only
where_made : (m : ℕ) (t : Bool) (z : ℤ) → nat_abs z ≤ m → nat_abs (cond t z (pos 0)) ≤ m
where_made m true z h = h
where_made m false z h = zero-le

module _ (body : List ℕ) (sound : Sound proved_points body) (h : ℕ) (below : h < day_hours) where
  price-small : nat_abs (hour_price body h) ≤ most_market_price
  unfolding price_from
  price-small = price_within _ _ (pairs_ranged body sound h below).ranged

  module _ (terms : Terms) where
    pub needed_small : nat_abs (needed_price terms body h) ≤ most_market_price
    unfolding needed_price
    needed_small = where_made most_market_price (price_needed terms body h) _ price-small

    pub down_small : nat_abs (downward_amount terms body h) ≤ most_downward_amount
    unfolding downward_amount
    down_small =
        where_made most_downward_amount (eqb (flag_of body) 1) _
        (downward_small terms _ _ (Q.downward_small body (hour_at body h) (hour_ranged body sound h below)) (sound.mec h below always))

    module _ (kept : TermsKept terms) where
      s-small : nat_abs (day_surcharge terms body) ≤ most_surcharge
      unfolding day_surcharge
      s-small = surcharge_small terms kept _ (most_small body sound terms) _ (hub_small body sound) (day_tier terms body)

      on_of : nat_abs (on_peak_of (day_surcharge terms body) (day_upward terms body) (day_tier terms body) (tier_at body h) (hour_price body h)) ≤ most_on_peak_amount
      on_of = on_peak_small _ (most_small body sound terms) (tier_at body h) _ price-small _ s-small (day_tier terms body)

      on-small : nat_abs (on_peak_amount terms body h) ≤ most_on_peak_amount
      unfolding on_peak_at_price on_peak_amount
      on-small = where_made most_on_peak_amount (eqb (flag_of body) 1 && peak_hour terms h) _ on_of

      shown-small : nat_abs (surcharge_at terms body h) ≤ most_on_peak_amount
      unfolding surcharge_at
      shown-small =
          where_made most_on_peak_amount (surcharge_hour terms body h) _
          (surcharge_in_cents_small (day_surcharge terms body) (day_tier terms body) s-small)

      credit-small : nat_abs (credit_at terms body h) ≤ most_on_peak_amount
      unfolding credit_at_price credit_at
      credit-small =
          where_made most_on_peak_amount (surcharge_hour terms body h) _
          (credit_in_cents_small _ (most_small body sound terms) (tier_at body h) _ price-small (day_tier terms body))

      off_of : nat_abs (off_peak_of terms (upward_at body h) (tier_at body h) (hour_price body h)) ≤ most_off_peak_amount
      off_of = off_peak_small terms kept _ (Q.upward_small body (hour_at body h) (hour_ranged body sound h below)) (tier_at body h) _ price-small

      off_small : nat_abs (off_peak_amount terms body h) ≤ most_off_peak_amount
      unfolding off_peak_at_price off_peak_amount
      off_small = where_made most_off_peak_amount (eqb (flag_of body) 1 && not (peak_hour terms h)) _ off_of

      -- an hour has an on-peak or an off-peak amount, never both
      one_of : (f t : Bool) (on off : ℤ) → nat_abs on ≤ most_on_peak_amount → nat_abs off ≤ most_off_peak_amount
          → nat_abs (cond (f && t) on (pos 0) +ℤ cond (f && not t) off (pos 0)) ≤ most_on_peak_amount
      one_of true true on off p q = omega (arith, abs_add on (pos 0))
      one_of true false on off p q = omega (arith, abs_add (pos 0) off)
      one_of false t on off p q = zero-le

      pub upward_small : nat_abs (on_peak_amount terms body h +ℤ off_peak_amount terms body h) ≤ most_on_peak_amount
      unfolding on_peak_at_price off_peak_at_price on_peak_amount off_peak_amount
      upward_small = one_of (eqb (flag_of body) 1) (peak_hour terms h) _ _ on_of off_of

      pub amount_small : nat_abs (amount_at terms body h) ≤ most_amount
      unfolding amount_at
      amount_small =
          omega (arith, abs_add (on_peak_amount terms body h +ℤ off_peak_amount terms body h) (downward_amount terms body h), upward_small, down_small)

-- the amounts that an hour was found to have
module _ (terms : Terms) (body : List ℕ) (h : ℕ) (amounts : Amounts) (is : amounts ≡ amounts_of terms body h) where
  -- A of them is the hour's
  pub amount_is : (a : ℤ) → a ≡ (amounts.on.0 +ℤ amounts.off.0) +ℤ amounts.down.0 → a ≡ amount_at terms body h
  unfolding amounts_of amount_at
  amount_is a e = e ∙ ap (λ m. (m.on.0 +ℤ m.off.0) +ℤ m.down.0) is

  pub amounts_ranged : Sound proved_points body → h < day_hours → TermsKept terms → AmountsRanged amounts
  unfolding amounts_of
  amounts_ranged sound below kept =
      rw is
      (record {
        on = omega (arith, on-small body sound h below terms kept);
        off = omega (arith, off_small body sound h below terms kept);
        down = omega (arith, down_small body sound h below terms);
        surcharge = omega (arith, shown-small body sound h below terms kept);
        credit = omega (arith, credit-small body sound h below terms kept);
      })

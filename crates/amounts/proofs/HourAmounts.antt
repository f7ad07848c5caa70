-- The amounts of an hour by flag and peak hour, at the price where it is needed.
use Prim.Native.Nat.{ℕ, ◌+◌}
use mathlib.Core.Bool.{Bool, true, false, cond, ◌&&◌}
use mathlib.Core.List.{List}
use mathlib.Core.Path.{◌≡◌, refl}
use lib.Dec.{eqb, leb}
use lib.IntN.{ℤ, pos}
use borrow.Author.Tests.{eq-eqb, ne_eqb}
use Rattle.words.specs.Word.{word_at, signed_of}
use Rattle.body.specs.Layout.{flag_of}
use Rattle.surcharge.specs.declared.Day.{Day}
use Rattle.surcharge.specs.declared.Terms.{Terms}
use Rattle.amounts.specs.declared.Amounts.{Amounts}
use Rattle.amounts.specs.declared.Hour.{Hour}
use Rattle.surcharge.specs.Surcharge.{peak_hour, on_peak_of, credit_in_cents, off_peak_of, downward_of, day_of}
use Rattle.amounts.specs.Amounts.{downward_from, upward_at, tier_at, day_tier, day_upward, day_surcharge, hour_price, price_needed, needed_price, day_facts, hour_facts}
use Rattle.amounts.specs.Amounts.{on_peak_at_price, off_peak_at_price, on_peak_amount, off_peak_amount, downward_amount, surcharge_at, credit_at_price, credit_at, amounts_of}
use Rattle.surcharge.specs.Ranges.{DayRanged}
use Rattle.amounts.specs.Ranges.{AtHour}
use Rattle.surcharge.proofs.Sizes.{surcharge_small}
use Rattle.surcharge.proofs.Unneeded.{on_unneeded, off_unneeded}
use Rattle.amounts.proofs.Hours.{most_small, hub_small}

abbrev pub made : (on off down surcharge credit : ℤ) → Amounts
made on off down surcharge credit =
    record {
      on = record { 0 = on };
      off = record { 0 = off };
      down = record { 0 = down };
      surcharge = record { 0 = surcharge };
      credit = record { 0 = credit };
    }

module _ (terms : Terms) (body : List ℕ) (h : ℕ) where
  pub without_flag : (flag_of body ≡ 1 → ⊥) → made (pos 0) (pos 0) (pos 0) (pos 0) (pos 0) ≡ amounts_of terms body h
  unfolding amounts_of on_peak_at_price off_peak_at_price on_peak_amount off_peak_amount downward_amount surcharge_at credit_at_price credit_at
  without_flag e = rw (ne_eqb (flag_of body) 1 e)

  abbrev at_price : ℤ → Amounts
  at_price price =
      made (on_peak_at_price terms body h price) (off_peak_at_price terms body h price) (downward_amount terms body h) (surcharge_at terms body h)
      (credit_at_price terms body h price)

  -- no amount and no credit depends on a price that is not needed
  unneeded : price_needed terms body h ≡ false → (price : ℤ) → at_price price ≡ amounts_of terms body h
  unfolding price_needed amounts_of on_peak_at_price off_peak_at_price on_peak_amount off_peak_amount credit_at_price credit_at
  unneeded none price = by (eqb (flag_of body) 1) (peak_hour terms h) refl refl none
    where
      by : (flag peak : Bool) → eqb (flag_of body) 1 ≡ flag → peak_hour terms h ≡ peak
          → (flag && cond peak (leb 2 (day_tier terms body) && eqb (tier_at body h) 0) (leb 2 (tier_at body h))) ≡ false
          → at_price price ≡ amounts_of terms body h
      by true true e f q =
          let same = on_unneeded (day_surcharge terms body) (day_upward terms body) (day_tier terms body) (tier_at body h) price (hour_price body h) q in
          rw (e, f, same.0, same.1)
      by true false e f q = rw (e, f, off_unneeded terms (upward_at body h) (tier_at body h) price (hour_price body h) q)
      by false peak e f q = rw e

  -- so that the price where it is needed is enough
  enough : (needed : Bool) → price_needed terms body h ≡ needed → at_price (cond needed (hour_price body h) (pos 0)) ≡ amounts_of terms body h
  unfolding amounts_of on_peak_amount off_peak_amount credit_at
  enough true e = refl
  enough false e = unneeded e (pos 0)

module _ {terms : Terms} {day : Day} {body : List ℕ} {h at : ℕ} (k : AtHour terms day body h at) where
  pub day_ranged : DayRanged day
  unfolding day_facts day_of
  day_ranged =
      let most = most_small body k.sound terms in
      rw k.facts
      (record { most = most; surcharge = surcharge_small terms k.kept _ most _ (hub_small body k.sound) (day_tier terms body) })

  -- with flag 1, what the calls answer are the amounts of the hour
  module _ (flag : flag_of body ≡ 1) {price : ℤ} (needed : price ≡ needed_price terms body h)
      {facts : Hour} (facts-is : facts ≡ hour_facts true body at)
      {down : ℤ} (down_is : down ≡ downward_of terms (downward_from body at) (signed_of (word_at body (at + 7)))) where
    at-price : at_price terms body h price ≡ amounts_of terms body h
    unfolding needed_price
    at-price = rw needed (enough terms body h (price_needed terms body h) refl)

    pub in_peak : peak_hour terms h ≡ true → {on credit : ℤ}
        → (on ≡ on_peak_of day.surcharge.0 day.most.0 day.tier facts.tier price)
        × (credit ≡ credit_in_cents day.most.0 day.tier facts.tier price)
        → made on (pos 0) down day.shown.0 credit ≡ amounts_of terms body h
    unfolding on_peak_at_price off_peak_at_price downward_amount surcharge_at credit_at_price hour_facts tier_at day_facts day_of day_surcharge
    in_peak peak is = rw (is.0, is.1, down_is, facts-is, k.here, k.facts) (rw (eq-eqb (flag_of body) 1 flag, peak) at at-price)

    pub outside_peak : peak_hour terms h ≡ false → {off : ℤ} → off ≡ off_peak_of terms facts.upward.0 facts.tier price
        → made (pos 0) off down (pos 0) (pos 0) ≡ amounts_of terms body h
    unfolding on_peak_at_price off_peak_at_price downward_amount surcharge_at credit_at_price hour_facts tier_at
    outside_peak peak is = rw (is, down_is, facts-is, k.here) (rw (eq-eqb (flag_of body) 1 flag, peak) at at-price)

-- Every number of an area of a statement fits 64 bits, so that it is read back from its bytes as it was written.
use Prim.Native.Nat.{ℕ, zero, suc, ◌≤◌, ◌<◌}
use mathlib.Core.Bool.{Bool, true, false}
use mathlib.Core.List.{List, []}
use mathlib.Core.Path.{◌≡◌, refl}
use native.Mathlib.Nat.{le_refl}
use native.Mathlib.Omega.{arith}
use lib.Dec.{eqb}
use lib.IntN.{ℤ, nat_abs}
use Rattle.exact.specs.Total.{total}
use Rattle.words.specs.Bytes.{words_from}
use Rattle.limits.specs.Ranges.{day_hours, most_amount, most_demand, proved_points}
use Rattle.encoding.specs.Encoding.{AllFit}
use Rattle.encoding.proofs.Decoding.{fit_none, fit_cons, fit_append}
use Rattle.body.specs.Layout.{kind_of, coordinators_of, demands_at}
use Rattle.body.specs.Kept.{Sound}
use Rattle.shares.proofs.Sharing.{share_fits}
use Rattle.shares.proofs.Fits.{shares_fit}
use Rattle.surcharge.specs.declared.Terms.{Terms}
use Rattle.surcharge.specs.Ranges.{TermsKept}
use Rattle.amounts.specs.Amounts.{amount_at, amounts_of}
use Rattle.amounts.proofs.AmountSizes.{amount_fits, amount_small, amounts_ranged}
use Rattle.statement.specs.Block.{charges_from, hour_block, hours_block, block}
use Rattle.statement.proofs.Demands.{demands_ranged}

charges_fit : (kind : ℕ) (amount : ℤ) (body : List ℕ) (from count : ℕ) → nat_abs amount ≤ most_amount → total (words_from body from count) ≤ most_demand
    → AllFit (charges_from kind amount body from count)
unfolding charges_from
charges_fit kind amount body from count h d = by (eqb kind 1) refl
  where
    by : (t : Bool) → eqb kind 1 ≡ t → AllFit (charges_from kind amount body from count)
    by true e = rw e (shares_fit amount (words_from body from count) (share_fits amount _ h d))
    by false e = rw e (fit_cons amount [] (amount_fits amount h) fit_none)

hour_fits : (terms : Terms) (body : List ℕ) (h : ℕ) → TermsKept terms → Sound proved_points body → h < day_hours → AllFit (hour_block terms body h)
unfolding hour_block amounts_of
hour_fits terms body h kept sound below =
    let r = amounts_ranged terms body h (amounts_of terms body h) refl sound below kept in
    let a = amount_small body sound h below terms kept in
    fit_cons _ _ (amount_fits _ r.on) (fit_cons _ _ (amount_fits _ r.off) (fit_cons _ _ (amount_fits _ r.down)
    (fit_cons _ _ (amount_fits _ r.surcharge) (fit_cons _ _ (amount_fits _ r.credit)
    (charges_fit (kind_of body) (amount_at terms body h) body (demands_at body h) (coordinators_of body) a (demands_ranged body sound h below).sum)))))

module _ (terms : Terms) (body : List ℕ) (kept : TermsKept terms) (sound : Sound proved_points body) where
  hours-fit : (n : ℕ) → n ≤ day_hours → AllFit (hours_block terms body n)
  unfolding hours_block
  hours-fit zero h = fit_none
  hours-fit (suc n) h =
      fit_append (hours_block terms body n) (hour_block terms body n) (hours-fit n (omega arith)) (hour_fits terms body n kept sound h)

  pub block_fits : AllFit (block terms body)
  block_fits = hours-fit day_hours (le_refl day_hours)

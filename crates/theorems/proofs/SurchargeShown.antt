-- In every hour of every area of every settled file, the S and the credit that are shown give the on-peak amount to a cent.
use Prim.Native.Nat.{ℕ, ◌≤◌, ◌<◌, zero-le}
use mathlib.Core.Bool.{Bool, true, false, ◌&&◌}
use mathlib.Core.List.{List}
use mathlib.Core.Logic.{◌⊎◌, inl, inr}
use mathlib.Core.Path.{◌≡◌, refl, ◌∙◌}
use borrow.Author.Tests.{ne_eqb}
use lib.Dec.{eqb}
use lib.IntN.{ℤ, pos, nat_abs, ◌-ℤ◌}
use lib.ListN.{length}
use Rattle.exact.specs.Floor.{at_least_zero}
use Rattle.limits.specs.Ranges.{day_hours}
use Rattle.verdict.specs.Verdict.{number_of}
use Rattle.body.specs.Layout.{flag_of}
use Rattle.contents.specs.File.{areas_of, body_at}
use Rattle.surcharge.specs.declared.Terms.{Terms}
use Rattle.surcharge.specs.Surcharge.{peak_hour}
use Rattle.surcharge.proofs.InCents.{on_peak_near, none_in_cents, no_credit_in_cents}
use Rattle.amounts.specs.Amounts.{tier_at, day_tier, day_upward, hub_price, day_surcharge, hour_price, on_peak_at_price, credit_at_price, on_peak_amount}
use Rattle.amounts.specs.Amounts.{surcharge_hour, surcharge_at, credit_at}
use Rattle.settlement.specs.Settlement.{terms_by, own_days, settle_by}
use Rattle.settlement.specs.Shown.{statement_left_by}
use Rattle.settlement.proofs.Shown.{on_peak_shown_lem, surcharge_shown_lem, credit_shown_lem}
use Rattle.theorems.specs.SurchargeShown.{SurchargeShown}

never : (t : Bool) → (t && false) ≡ false
never true = refl
never false = refl

-- over the definitions
module _ (terms : Terms) (body : List ℕ) (h : ℕ) where
  near : nat_abs (on_peak_amount terms body h -ℤ at_least_zero (surcharge_at terms body h -ℤ credit_at terms body h)) ≤ 1
  unfolding day_surcharge on_peak_at_price credit_at_price on_peak_amount surcharge_at credit_at at_least_zero
  near = by (surcharge_hour terms body h) refl
    where
      by : (t : Bool) → surcharge_hour terms body h ≡ t → nat_abs (on_peak_amount terms body h -ℤ at_least_zero (surcharge_at terms body h -ℤ credit_at terms body h)) ≤ 1
      by true e = rw e (on_peak_near terms (day_upward terms body) (hub_price body) (day_tier terms body) (tier_at body h) (hour_price body h))
      by false e = rw e zero-le

  nothing-shown : surcharge_hour terms body h ≡ false → (surcharge_at terms body h ≡ pos 0) × (credit_at terms body h ≡ pos 0)
  unfolding credit_at_price surcharge_at credit_at
  nothing-shown e = rw e (refl, refl)

  nothing : (peak_hour terms h ≡ false) ⊎ ((day_tier terms body ≤ 1) ⊎ (flag_of body ≡ 1 → ⊥))
      → (surcharge_at terms body h ≡ pos 0) × (credit_at terms body h ≡ pos 0)
  unfolding credit_at_price surcharge_at credit_at
  nothing (inl e) = nothing-shown (rw e (never (eqb (flag_of body) 1)))
  nothing (inr (inl p)) = by (surcharge_hour terms body h) refl
    where
      by : (t : Bool) → surcharge_hour terms body h ≡ t → (surcharge_at terms body h ≡ pos 0) × (credit_at terms body h ≡ pos 0)
      by true e = rw e (none_in_cents (day_surcharge terms body) (day_upward terms body) (day_tier terms body) (tier_at body h) (hour_price body h) p)
      by false e = nothing-shown e
  nothing (inr (inr e)) = nothing-shown (rw (ne_eqb (flag_of body) 1 e))

  failed : (tier_at body h ≡ 0 → ⊥) → credit_at terms body h ≡ pos 0
  unfolding credit_at_price credit_at
  failed p = by (surcharge_hour terms body h) refl
    where
      by : (t : Bool) → surcharge_hour terms body h ≡ t → credit_at terms body h ≡ pos 0
      by true e = rw e (no_credit_in_cents (day_upward terms body) (day_tier terms body) (tier_at body h) (hour_price body h) p)
      by false e = rw e

-- ---- under any d

abbrev pub SurchargesShown : (ℕ → List ℕ → ℕ) → Type 0
SurchargesShown d =
    (file : List ℕ) (statement : List ℤ) → number_of (settle_by d file (length statement)) ≡ 0 → (k h : ℕ) → k < areas_of file → h < day_hours
    → SurchargeShown d file (statement_left_by d file statement) k h

pub every_surcharge_shown_by : (d : ℕ → List ℕ → ℕ) → SurchargesShown d
every_surcharge_shown_by d file statement z k h area hour =
    let terms = terms_by d file k in
    let body = body_at file k in
    let on = on_peak_shown_lem d file statement z k h area hour in
    let surcharge = surcharge_shown_lem d file statement z k h area hour in
    let credit = credit_shown_lem d file statement z k h area hour in
    record {
      near = rw (on, surcharge, credit) (near terms body h);
      nothing = λ p. rw (surcharge, credit) (nothing terms body h p);
      failed = λ p. credit ∙ failed terms body h p;
    }

-- ---- of `settle`

pub every_surcharge_shown : SurchargesShown own_days
every_surcharge_shown = every_surcharge_shown_by own_days

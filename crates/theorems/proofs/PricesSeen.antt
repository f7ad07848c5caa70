-- In every settled file, each hour's amount or credit that rests on a price rests on one with at least 9L of its 12L intervals present.
use Prim.Native.Nat.{ℕ, ◌+◌, ◌*◌, ◌≤◌, ◌<◌}
use mathlib.Core.Bool.{Bool, true, false, cond, ◌&&◌}
use mathlib.Core.List.{List}
use mathlib.Core.Path.{◌≡◌, refl, ap, sym, ◌∙◌}
use native.Mathlib.Omega.{arith}
use lib.Dec.{eqb, leb}
use lib.IntN.{ℤ}
use lib.ListN.{length}
use borrow.Author.Tests.{leb-true}
use Rattle.limits.specs.Ranges.{day_hours, least_present}
use Rattle.verdict.specs.declared.Refusal.TheVariants.{TooFewIntervals}
use Rattle.verdict.specs.Verdict.{number_of, Accepted}
use Rattle.verdict.proofs.First.{kept}
use Rattle.body.specs.Layout.{flag_of, points_of, intervals_at}
use Rattle.contents.specs.File.{areas_of, body_at}
use Rattle.price.specs.Price.{answer_count}
use Rattle.price.proofs.Count.{seen}
use Rattle.surcharge.specs.declared.Terms.{Terms}
use Rattle.surcharge.specs.Surcharge.{peak_hour}
use Rattle.surcharge.proofs.Unneeded.{on_unneeded, off_unneeded}
use Rattle.amounts.specs.Amounts.{tier_at, day_tier, price_from, price_answer_at, price_needed, usable_rule, price_rule}
use Rattle.amounts.specs.Amounts.{on_peak_at_price, off_peak_at_price, credit_at_price, on_peak_amount, off_peak_amount, credit_at}
use Rattle.settlement.specs.Settlement.{terms_by, own_days, settle_by}
use Rattle.theorems.specs.Seen.{present_at, PriceSeen}
use Rattle.theorems.proofs.SettledExactly.{settled_says}

-- the count of an hour's price is the length of the list of its present intervals
pub seen_at : (body : List ℕ) (h : ℕ) → answer_count (price_answer_at body h) ≡ length (present_at body h)
unfolding price_from
seen_at body h = seen _ (12 * points_of body)

module _ (terms : Terms) (body : List ℕ) (h : ℕ) where
  enough : (start : ℕ) → number_of (price_rule terms start body h) ≡ 0 → price_needed terms body h ≡ true
      → least_present * points_of body ≤ length (present_at body h)
  unfolding price_rule
  enough start z needed =
      let place = start + intervals_at body h in
      let usable = ap (λ t. number_of (cond t (usable_rule place (points_of body) (price_answer_at body h)) Accepted)) (sym needed) ∙ z in
      leb-true _ _ (rw (← seen_at body h) (kept (leb (least_present * points_of body) (answer_count (price_answer_at body h))) (TooFewIntervals place) _ usable).0)

  else_none : price_needed terms body h ≡ false → (price : ℤ)
      → (on_peak_at_price terms body h price ≡ on_peak_amount terms body h) × (off_peak_at_price terms body h price ≡ off_peak_amount terms body h)
      × (credit_at_price terms body h price ≡ credit_at terms body h)
  unfolding price_needed on_peak_at_price off_peak_at_price credit_at_price on_peak_amount off_peak_amount credit_at
  else_none none price = by (eqb (flag_of body) 1) (peak_hour terms h) refl refl none
    where
      by : (flag peak : Bool) → eqb (flag_of body) 1 ≡ flag → peak_hour terms h ≡ peak
          → (flag && cond peak (leb 2 (day_tier terms body) && eqb (tier_at body h) 0) (leb 2 (tier_at body h))) ≡ false
          → (on_peak_at_price terms body h price ≡ on_peak_amount terms body h) × (off_peak_at_price terms body h price ≡ off_peak_amount terms body h)
          × (credit_at_price terms body h price ≡ credit_at terms body h)
      by true true e f q = let same = on_unneeded _ _ (day_tier terms body) (tier_at body h) _ _ q in rw (e, f) (same.0, refl, same.1)
      by true false e f q = rw (e, f) (refl, off_unneeded terms _ (tier_at body h) _ _ q, refl)
      by false peak e f q = rw e (refl, refl, refl)

abbrev pub PricesSeen : (ℕ → List ℕ → ℕ) → Type 0
PricesSeen d =
    (file : List ℕ) (room : ℕ) → number_of (settle_by d file room) ≡ 0 → (k h : ℕ) → k < areas_of file → h < day_hours
    → PriceSeen (terms_by d file k) (body_at file k) h

pub prices_seen_by : (d : ℕ → List ℕ → ℕ) → PricesSeen d
prices_seen_by d file room z k h p q =
    record {
      enough = enough _ _ h 0 (((settled_says d room file z).hour k h p q).priced 0);
      else_none = else_none _ _ h;
    }

-- ---- of `settle`

pub prices_seen : PricesSeen own_days
prices_seen = prices_seen_by own_days

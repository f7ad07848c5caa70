-- What is known of a number of an hour whose rule was kept.
use Rattle.std.proofs.Common.{◌≡◌, ℕ, ◌+◌, Bool, true, false, ◌&&◌, ◌||◌, eqb, leb, nat_abs, sym, refl, ◌∙◌, eq-eqb, leb-true}
use Rattle.words.specs.Word.{signed_of}
use Rattle.verdict.specs.Verdict.{number_of}
use Rattle.verdict.proofs.First.{kept, both}
use Rattle.limits.specs.Ranges.{most_market_price, most_quantity, most_demand}
use Rattle.hour.specs.Layout.{missing}
use Rattle.hour.specs.Kept.{QuantityKept, PriceKept, DemandKept}
use Rattle.hour.specs.Check.{pair_rule, demand_rule}

pub pair_kept : (place next quantity price : ℕ) → number_of (pair_rule place next quantity price) ≡ 0
    → QuantityKept quantity × PriceKept price
pair_kept place next quantity price z =
    let p = kept (leb quantity most_quantity) _ _ z in
    let r = kept (missing price || leb (nat_abs (signed_of price)) most_market_price) _ _ p.1 in
    (leb-true _ _ p.0, λ there. leb-true _ _ (simp there at r.0))

-- both tests hold, whichever is made first
pub demand_accepts : (place before demand : ℕ)
    → eqb (number_of (demand_rule place before demand)) 0 ≡ (leb demand most_demand && leb (before + demand) most_demand)
demand_accepts place before demand = by (leb demand most_demand) (leb (before + demand) most_demand) refl refl
  where
    by : (own running : Bool) → leb demand most_demand ≡ own → leb (before + demand) most_demand ≡ running
        → eqb (number_of (demand_rule place before demand)) 0 ≡ (own && running)
    by true true e f = simp (e, f)
    by true false e f = simp (e, f)
    by false true e f = simp (e, f)
    by false false e f = simp (e, f)

pub demand_kept : (place before demand : ℕ) → number_of (demand_rule place before demand) ≡ 0 → DemandKept before demand
demand_kept place before demand z =
    let p = both (leb demand most_demand) _ (sym (demand_accepts place before demand) ∙ eq-eqb _ _ z) in
    (leb-true _ _ p.0, leb-true _ _ p.1)

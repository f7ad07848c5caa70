-- A body in which neighbours are one: the same amounts, the same hours settled, and the neighbours' charges added.
use Prim.Native.Nat.{ℕ, ◌<◌}
use mathlib.Core.List.{List, ◌++◌}
use mathlib.Core.Path.{◌≡◌, sym, ap, ap₂, ◌∙◌}
use native.Mathlib.Omega.{arith}
use Rattle.exact.specs.Total.{total}
use Rattle.limits.specs.Ranges.{day_hours}
use Rattle.body.specs.Layout.{kind_of, days_of, coordinators_of, demands_at, demands_of}
use Rattle.shares.specs.Shares.{sum, shares, merged_at}
use Rattle.shares.proofs.Merged.{merged, total_merged}
use Rattle.surcharge.specs.declared.Terms.{Terms}
use Rattle.amounts.specs.Amounts.{amount_at}
use Rattle.statement.specs.Block.{amounts_at, charges_at, hour_block}
use Rattle.statement.proofs.Charges.{charges_shared}
use Rattle.settlement.specs.Settlement.{chargeable}
use Rattle.comparisons.specs.Merge.{Merged}
use Rattle.comparisons.proofs.SameAmounts.{SameAmounts, kind_same, amounts_same, amount_same, priced_same}
use Rattle.comparisons.proofs.SameHours.{same_amounts}
use Rattle.theorems.proofs.SettledExactly.{HourSettled}

module _ (i n : ℕ) (body other : List ℕ) (m : Merged i n body other) where
  same : SameAmounts body other
  same = same_amounts body other m.same

  pub days_same : days_of body ≡ days_of other
  days_same = sym (m.same.head 2 (omega arith))

  pub demand_same : (h : ℕ) → h < day_hours → total (demands_of other h) ≡ total (demands_of body h)
  demand_same h below = ap total (m.demands h below) ∙ total_merged i n (demands_of body h)

  module _ (terms : Terms) (h : ℕ) (below : h < day_hours) where
    chargeable-same : chargeable terms other h ≡ chargeable terms body h
    unfolding chargeable
    chargeable-same = rw (kind_same body other same, amount_same body other same terms h below, demand_same h below)

    pub hour_settled_too : HourSettled terms body h → HourSettled terms other h
    hour_settled_too s = record { priced = λ start. priced_same body other same terms h below start ∙ s.priced start; paid = chargeable-same ∙ s.paid }

    charges_merged : kind_of body ≡ 1 → charges_at terms other h ≡ merged_at sum i n (charges_at terms body h)
    charges_merged ciso =
        let amount = amount_at terms body h in
        charges_shared (kind_of other) (amount_at terms other h) other (demands_at other h) (coordinators_of other) (kind_same body other same ∙ ciso)
        ∙ ap₂ shares (amount_same body other same terms h below) (m.demands h below)
        ∙ merged amount i n (demands_of body h)
        ∙ ap (merged_at sum i n) (sym (charges_shared (kind_of body) amount body (demands_at body h) (coordinators_of body) ciso))

    pub hour_merged : kind_of body ≡ 1 → hour_block terms other h ≡ amounts_at terms body h ++ merged_at sum i n (charges_at terms body h)
    unfolding hour_block
    hour_merged ciso = rw (amounts_same body other same terms h below, charges_merged ciso)

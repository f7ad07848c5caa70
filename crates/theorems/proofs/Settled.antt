-- What an accepted settlement says of each hour: it has no refusal, so there is somebody to charge.
use Prim.Native.Nat.{ℕ, ◌<◌}
use mathlib.Core.Bool.{not}
use mathlib.Core.List.{List}
use mathlib.Core.Logic.{◌⊎◌, inl, inr, ⊎_elim}
use mathlib.Core.Path.{◌≡◌}
use native.Mathlib.Omega.{arith}
use lib.Dec.{eqb, leb}
use lib.IntN.{pos}
use borrow.Author.Tests.{eqb-false, not-true}
use Rattle.exact.specs.Total.{total}
use Rattle.limits.specs.Ranges.{day_hours}
use Rattle.verdict.specs.Verdict.{number_of}
use Rattle.verdict.proofs.First.{kept, or_second, scan_each}
use Rattle.body.specs.Layout.{kind_of, demands_of}
use Rattle.contents.specs.File.{areas_of}
use Rattle.dayfile.specs.Check.{check_of}
use Rattle.surcharge.specs.declared.Terms.{Terms}
use Rattle.amounts.specs.Amounts.{amount_at}
use Rattle.shares.proofs.SomeDemand.{either, shareable_when}
use Rattle.settlement.specs.Settlement.{numbers_needed, chargeable, charge_rule, hour_refusal, hours_refusal, area_refusal, areas_refusal, accepted_rule}
use Rattle.settlement.specs.Settlement.{settle_with, days_by, settle_by}
use Rattle.theorems.specs.Refused.{hour_verdict}

pub hour_accepted : (d : ℕ → List ℕ → ℕ) (file : List ℕ) (room : ℕ) → number_of (settle_by d file room) ≡ 0 → (k h : ℕ)
    → k < areas_of file → h < day_hours
    → number_of (hour_verdict d file k h) ≡ 0
unfolding settle_with accepted_rule areas_refusal area_refusal hours_refusal
hour_accepted d file room z k h area hour =
    let days = days_by d file in
    let roomy = kept (leb (numbers_needed file) room) _ (areas_refusal days file) (or_second (check_of file) _ z) in
    scan_each _ day_hours (scan_each (area_refusal days file) (areas_of file) roomy.1 k area) h hour

pub charged : (terms : Terms) (start : ℕ) (body : List ℕ) (h : ℕ) → number_of (hour_refusal terms start body h) ≡ 0
    → (kind_of body ≡ 1 → ⊥) ⊎ ((amount_at terms body h ≡ pos 0) ⊎ (0 < total (demands_of body h)))
unfolding hour_refusal charge_rule chargeable
charged terms start body h z =
    let test = (kept (chargeable terms body h) _ _ (or_second _ _ z)).0 in
    ⊎_elim
    (λ t. inl (eqb-false _ _ (not-true _ t)))
    (λ t. inr (shareable_when (amount_at terms body h) _ t))
    (either (not (eqb (kind_of body) 1)) _ test)

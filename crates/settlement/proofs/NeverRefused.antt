-- Nothing of a plain area is refused, whatever it is settled under: each price that is needed can be settled with, and where there is an amount there is somebody
-- to charge.
use Prim.Native.Nat.{ℕ, ◌+◌, ◌<◌}
use mathlib.Core.Bool.{Bool, true, false, cond, not, ◌||◌}
use mathlib.Core.List.{List}
use mathlib.Core.Path.{◌≡◌, refl}
use native.Mathlib.Omega.{arith}
use lib.Dec.{eqb, leb, ltb}
use lib.IntN.{nat_abs}
use borrow.Author.Tests.{eqb-true, leb-true, lt-ltb}
use Rattle.exact.specs.Total.{total}
use Rattle.limits.specs.Ranges.{day_hours}
use Rattle.verdict.specs.Verdict.{Accepted, Verdict}
use Rattle.verdict.proofs.First.{both, or_next, scan_holds}
use Rattle.hour.specs.Plain.{plain_hour}
use Rattle.body.specs.Layout.{kind_of, intervals_at, demands_of}
use Rattle.body.specs.Plain.{plain_area}
use Rattle.body.proofs.PlainHours.{plain_each}
use Rattle.surcharge.specs.declared.Terms.{Terms}
use Rattle.amounts.specs.Amounts.{amount_at, price_needed, price_rule}
use Rattle.amounts.proofs.PlainPrices.{plainly_usable}
use Rattle.settlement.specs.Settlement.{chargeable, charge_rule, hour_refusal, hours_refusal}

-- what is accepted, asked for or not
either_way : (asked : Bool) (answer : Verdict) → answer ≡ Accepted → cond asked answer Accepted ≡ Accepted
either_way true answer e = e
either_way false answer e = refl

-- CISO has demand
somebody : (ciso : Bool) (kind amount demand : ℕ) → eqb kind 1 ≡ ciso → leb kind demand ≡ true → (not ciso || (eqb amount 0 || ltb 0 demand)) ≡ true
somebody false kind amount demand e some = refl
somebody true kind amount demand e some =
    let one = eqb-true kind 1 e in
    rw (lt-ltb 0 demand (omega (arith, leb-true kind demand some))) (either (eqb amount 0))
  where
    either : (t : Bool) → (t || true) ≡ true
    either true = refl
    either false = refl

module _ (terms : Terms) (start : ℕ) (body : List ℕ) (plain : plain_area body ≡ true) where
  hour_accepted : (h : ℕ) → h < day_hours → hour_refusal terms start body h ≡ Accepted
  unfolding hour_refusal price_rule charge_rule chargeable plain_hour
  hour_accepted h below =
      let two = both _ _ (plain_each body _ _ _ day_hours plain h below) in
      let one = both _ _ two.0 in
      let price = either_way (price_needed terms body h) _ (plainly_usable body (intervals_at body h) (start + intervals_at body h) one.0 one.1) in
      rw (price, somebody _ (kind_of body) (nat_abs (amount_at terms body h)) (total (demands_of body h)) refl two.1) (or_next Accepted Accepted refl)

  pub never_refused : hours_refusal terms start body ≡ Accepted
  unfolding hours_refusal
  never_refused =
      (scan_holds (λ v. v ≡ Accepted) (record { holds = refl }) (hour_refusal terms start body) day_hours (λ h below. record { holds = hour_accepted h below })).holds

-- A file is settled exactly when the check accepts it, the room is enough, and every hour of every area has its price and its payers.
use Prim.Native.Nat.{ℕ, ◌≤◌, ◌<◌}
use mathlib.Core.Bool.{true}
use mathlib.Core.List.{List}
use mathlib.Core.Path.{◌≡◌, ap, ◌∙◌}
use native.Mathlib.Omega.{arith}
use borrow.Author.Tests.{le-leb}
use Rattle.limits.specs.Ranges.{day_hours}
use Rattle.verdict.specs.Verdict.{number_of}
use Rattle.verdict.proofs.First.{kept, or_first, or_second, all_accept, or_next}
use Rattle.contents.specs.File.{areas_of, start_at, body_at}
use Rattle.dayfile.specs.Check.{check_of}
use Rattle.surcharge.specs.declared.Terms.{Terms}
use Rattle.amounts.specs.Amounts.{price_rule}
use Rattle.amounts.proofs.Prices.{price_anywhere}
use Rattle.settlement.specs.Settlement.{numbers_needed, chargeable, charge_rule, hour_refusal, hours_refusal, area_refusal, areas_refusal, accepted_rule}
use Rattle.settlement.specs.Settlement.{settle_with, days_by, terms_by, settle_by}
use Rattle.settlement.proofs.Room.{check_accepts, room_enough}
use Rattle.theorems.proofs.Settled.{hour_accepted}

-- an hour that refuses nothing
pub record HourSettled (terms : Terms) (body : List ℕ) (h : ℕ) : Type 0 where
  pub priced : (start : ℕ) → number_of (price_rule terms start body h) ≡ 0
  pub paid : chargeable terms body h ≡ true

pub record Settled (d : ℕ → List ℕ → ℕ) (room : ℕ) (file : List ℕ) : Type 0 where
  pub checked : number_of (check_of file) ≡ 0
  pub roomy : numbers_needed file ≤ room
  pub hour : (k h : ℕ) → k < areas_of file → h < day_hours → HourSettled (terms_by d file k) (body_at file k) h

-- ---- an hour, by its rule

module _ (terms : Terms) (start : ℕ) (body : List ℕ) (h : ℕ) where
  hour-settled : number_of (hour_refusal terms start body h) ≡ 0 → HourSettled terms body h
  unfolding hour_refusal charge_rule
  hour-settled z =
      record {
        priced = λ elsewhere. price_anywhere terms body h elsewhere start ∙ or_first _ _ z;
        paid = (kept (chargeable terms body h) _ _ (or_second _ _ z)).0;
      }

  hour-accepts : HourSettled terms body h → number_of (hour_refusal terms start body h) ≡ 0
  unfolding hour_refusal charge_rule
  hour-accepts s = ap number_of (or_next (price_rule terms start body h) _ (s.priced start)) ∙ rw s.paid

-- ---- the file

module _ (d : ℕ → List ℕ → ℕ) (room : ℕ) (file : List ℕ) where
  abbrev days : ℕ → ℕ
  days = days_by d file

  pub settled_says : number_of (settle_by d file room) ≡ 0 → Settled d room file
  settled_says z =
      record {
        checked = check_accepts days file room z;
        roomy = room_enough days file room z;
        hour = λ k h p q. hour-settled _ (start_at file k) _ h (hour_accepted d file room z k h p q);
      }

  areas-accept : Settled d room file → number_of (areas_refusal days file) ≡ 0
  unfolding areas_refusal area_refusal hours_refusal
  areas-accept s =
      all_accept (area_refusal days file) (areas_of file)
      (λ k p. all_accept (hour_refusal (terms_by d file k) (start_at file k) (body_at file k)) day_hours (λ h q. hour-accepts _ _ _ h (s.hour k h p q)))

  pub settled_accepts : Settled d room file → number_of (settle_by d file room) ≡ 0
  unfolding settle_with accepted_rule
  settled_accepts s = ap number_of (or_next (check_of file) _ s.checked) ∙ rw (le-leb (numbers_needed file) room s.roomy) (areas-accept s)

-- Where each hour of each area stands in a settled statement, and what is read there.
use Prim.Native.Nat.{ℕ, zero, suc, ◌+◌, ◌*◌, ◌≤◌, ◌<◌}
use mathlib.Core.List.{List}
use mathlib.Core.Logic.{⊎_elim}
use mathlib.Core.Path.{◌≡◌, refl}
use native.Mathlib.Nat.{eq-or-lt_of_le, le_of_suc-le-suc, le_refl, add-zero}
use native.Mathlib.Omega.{arith}
use lib.IntN.{ℤ, pos}
use lib.ListN.{length, get_or, drop}
use Rattle.limits.specs.Ranges.{day_hours, proved_points}
use Rattle.verdict.specs.Verdict.{number_of}
use Rattle.body.specs.Layout.{kind_of, coordinators_of, demands_at}
use Rattle.body.specs.Kept.{Sound}
use Rattle.contents.specs.File.{areas_of, body_at}
use Rattle.surcharge.specs.declared.Terms.{Terms}
use Rattle.amounts.specs.Amounts.{on_peak_amount, off_peak_amount, downward_amount, surcharge_at, credit_at, amount_at, amounts_of}
use Rattle.statement.specs.Block.{amounts_shown, hour_numbers, amounts_at, charges_at, hour_block, hours_block, block}
use Rattle.statement.proofs.Charges.{charges_length}
use Rattle.statement.proofs.Demands.{demands_ranged}
use Rattle.statement.proofs.Hours.{hours_length, hour_length}
use Rattle.settlement.specs.SoundFile.{SoundFile}
use Rattle.settlement.specs.Settlement.{needed_to, numbers_needed, terms_at, statement_to, days_by, settle_by}
use Rattle.settlement.specs.Shown.{statement_left_by, place_of_hour, hour_shown, on_peak_shown, off_peak_shown, downward_shown, surcharge_shown, credit_shown}
use Rattle.settlement.specs.Shown.{charge_shown, charges_shown}
use Rattle.settlement.proofs.Accepted.{sound_file, settled}
use Rattle.settlement.proofs.Areas.{statement_length}
use Rattle.settlement.proofs.Room.{check_accepts}
use Rattle.settlement.proofs.Stands.{Stands, within, followed, last, taken, number}

hour_in_block : (terms : Terms) (body : List ℕ) → Sound proved_points body → (n : ℕ) → n ≤ day_hours → (h : ℕ) → h < n
    → Stands (hour_block terms body h) (hours_block terms body n) (h * hour_numbers (coordinators_of body))
unfolding hours_block
hour_in_block terms body sound zero p h below = absurd (omega arith)
hour_in_block terms body sound (suc n) p h below =
    ⊎_elim
    (λ (e : h ≡ n). rw e (last (hours_block terms body n) (hour_block terms body n) _ (hours_length terms body sound n (omega arith))))
    (λ (l : h < n). followed _ _ (hour_block terms body n) _ (hour_in_block terms body sound n (omega arith) h l))
    (eq-or-lt_of_le (le_of_suc-le-suc below))

block_in_statement : (days : ℕ → ℕ) (file : List ℕ) → SoundFile file → (n : ℕ) → n ≤ areas_of file → (k : ℕ) → k < n
    → Stands (block (terms_at days file k) (body_at file k)) (statement_to days file n) (needed_to file k)
unfolding statement_to
block_in_statement days file sound zero p k below = absurd (omega arith)
block_in_statement days file sound (suc n) p k below =
    ⊎_elim
    (λ (e : k ≡ n). rw e (last (statement_to days file n) _ _ (statement_length file sound days n (omega arith))))
    (λ (l : k < n). followed _ _ (block (terms_at days file n) (body_at file n)) _ (block_in_statement days file sound n (omega arith) k l))
    (eq-or-lt_of_le (le_of_suc-le-suc below))

-- of a file that is settled under d
module _ (d : ℕ → List ℕ → ℕ) (file : List ℕ) (statement : List ℤ) (accepted : number_of (settle_by d file (length statement)) ≡ 0)
    (k h : ℕ) (area : k < areas_of file) (hour : h < day_hours) where
  abbrev body : List ℕ
  body = body_at file k

  abbrev terms : Terms
  terms = terms_at (days_by d file) file k

  abbrev left : List ℤ
  left = statement_left_by d file statement

  sound : SoundFile file
  sound = sound_file file (check_accepts (days_by d file) file (length statement) accepted)

  hour-stands : Stands (hour_block terms body h) left (place_of_hour file k h)
  unfolding place_of_hour
  hour-stands =
      rw (← settled (days_by d file) file (settle_by d file (length statement)) statement accepted)
      (followed _ _ (drop (numbers_needed file) statement) _
      (within _ _ _ _ _
      (hour_in_block terms body (sound.body k area) day_hours (le_refl _) h hour)
      (block_in_statement (days_by d file) file sound (areas_of file) (le_refl _) k area)))

  -- ---- what is read there: the amounts

  long : length (hour_block terms body h) ≡ hour_numbers (coordinators_of body)
  long = hour_length terms body (sound.body k area) h hour

  pub hour_shown_lem : hour_shown file k h left ≡ hour_block terms body h
  hour_shown_lem = taken _ _ _ hour-stands _ long

  pub on_peak_shown_lem : on_peak_shown file k h left ≡ on_peak_amount terms body h
  unfolding hour_block amounts_of
  on_peak_shown_lem = rw (← add-zero (place_of_hour file k h)) (number _ _ _ hour-stands 0 (omega (arith, long)))

  pub off_peak_shown_lem : off_peak_shown file k h left ≡ off_peak_amount terms body h
  unfolding hour_block amounts_of
  off_peak_shown_lem = number _ _ _ hour-stands 1 (omega (arith, long))

  pub downward_shown_lem : downward_shown file k h left ≡ downward_amount terms body h
  unfolding hour_block amounts_of
  downward_shown_lem = number _ _ _ hour-stands 2 (omega (arith, long))

  pub surcharge_shown_lem : surcharge_shown file k h left ≡ surcharge_at terms body h
  unfolding hour_block amounts_of
  surcharge_shown_lem = number _ _ _ hour-stands 3 (omega (arith, long))

  pub credit_shown_lem : credit_shown file k h left ≡ credit_at terms body h
  unfolding hour_block amounts_of
  credit_shown_lem = number _ _ _ hour-stands 4 (omega (arith, long))

  -- ---- and the charges behind them

  charges-stand : Stands (charges_at terms body h) left (place_of_hour file k h + amounts_shown)
  unfolding hour_block
  charges-stand =
      within _ _ _ amounts_shown _
      (last (amounts_at terms body h) _ amounts_shown refl)
      hour-stands

  charges-many : length (charges_at terms body h) ≡ coordinators_of body
  charges-many =
      charges_length (kind_of body) (amount_at terms body h) body (demands_at body h) (coordinators_of body)
      (demands_ranged body (sound.body k area) h hour).alone

  pub charges_shown_lem : charges_shown file k h left ≡ charges_at terms body h
  charges_shown_lem = taken _ _ _ charges-stand _ charges-many

  pub charge_shown_lem : (i : ℕ) → i < coordinators_of body → charge_shown file k h left i ≡ get_or (charges_at terms body h) i (pos 0)
  charge_shown_lem i p = number _ _ _ charges-stand i (omega (arith, charges-many))

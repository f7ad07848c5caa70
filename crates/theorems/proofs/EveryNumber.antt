-- Demand 2: for every file that is settled, each number of the statement is the on-peak, off-peak or downward amount, the S, the credit or the charge that
-- belongs there, and behind the numbers needed stands what stood there.
use Prim.Native.Nat.{ℕ, ◌+◌, ◌-◌, ◌≤◌}
use mathlib.Core.List.{List, ◌++◌}
use mathlib.Core.Path.{◌≡◌, sym, ap, ◌∙◌}
use native.Mathlib.Nat.{le_refl}
use native.Mathlib.Omega.{arith}
use lib.IntN.{ℤ, pos}
use lib.ListN.{length, get_or, drop, length-append, length-drop}
use lib.Seq.{get_or-append-add, get_or-drop}
use Rattle.verdict.specs.Verdict.{number_of}
use Rattle.contents.specs.File.{areas_of}
use Rattle.settlement.specs.Settlement.{numbers_needed, statement_to, days_by, own_days, settle_by}
use Rattle.settlement.specs.Shown.{statement_left_by}
use Rattle.settlement.proofs.Accepted.{sound_file, settled}
use Rattle.settlement.proofs.Areas.{statement_length}
use Rattle.settlement.proofs.Room.{check_accepts, room_enough}
use Rattle.settlement.proofs.Shown.{on_peak_shown_lem, off_peak_shown_lem, downward_shown_lem, surcharge_shown_lem, credit_shown_lem, charge_shown_lem}
use Rattle.theorems.specs.EveryNumber.{EveryNumber}

module _ (d : ℕ → List ℕ → ℕ) (file : List ℕ) (statement : List ℤ) (z : number_of (settle_by d file (length statement)) ≡ 0) where
  abbrev days : ℕ → ℕ
  days = days_by d file

  abbrev blocks : List ℤ
  blocks = statement_to days file (areas_of file)

  left_is : statement_left_by d file statement ≡ blocks ++ drop (numbers_needed file) statement
  left_is = sym (settled days file (settle_by d file (length statement)) statement z)

  blocks-length : length blocks ≡ numbers_needed file
  blocks-length = statement_length file (sound_file file (check_accepts days file (length statement) z)) days (areas_of file) (le_refl _)

  behind : (i : ℕ) → numbers_needed file ≤ i → get_or (statement_left_by d file statement) i (pos 0) ≡ get_or statement i (pos 0)
  behind i p =
      let over = i - numbers_needed file in
      let there : i ≡ length blocks + over = omega (arith, blocks-length) in
      let here : numbers_needed file + over ≡ i = omega arith in
      ap (λ (l : List ℤ). get_or l i (pos 0)) left_is
      ∙ ap (λ (j : ℕ). get_or (blocks ++ drop (numbers_needed file) statement) j (pos 0)) there
      ∙ get_or-append-add blocks (drop (numbers_needed file) statement) over (pos 0)
      ∙ get_or-drop (numbers_needed file) statement over (pos 0)
      ∙ ap (λ (j : ℕ). get_or statement j (pos 0)) here

  as_long : length (statement_left_by d file statement) ≡ length statement
  as_long =
      let rest = drop (numbers_needed file) statement in
      ap length left_is
      ∙ omega (arith, length-append blocks rest, blocks-length, length-drop (numbers_needed file) statement, room_enough days file (length statement) z)

  pub every_number_by : EveryNumber d file statement
  every_number_by =
      record {
        hours = λ k h p q.
            record {
              on_peak = on_peak_shown_lem d file statement z k h p q;
              off_peak = off_peak_shown_lem d file statement z k h p q;
              downward = downward_shown_lem d file statement z k h p q;
              surcharge = surcharge_shown_lem d file statement z k h p q;
              credit = credit_shown_lem d file statement z k h p q;
              charge = charge_shown_lem d file statement z k h p q;
            };
        behind = behind;
        as_long = as_long;
      }

-- ---- of `settle`

pub every_number : (file : List ℕ) (statement : List ℤ) → number_of (settle_by own_days file (length statement)) ≡ 0 → EveryNumber own_days file statement
every_number file statement z = every_number_by own_days file statement z

-- What one day's file takes of a statement, and what settling it there leaves.
use Prim.Native.Nat.{ℕ, ◌≤◌}
use mathlib.Core.Bool.{cond}
use mathlib.Core.List.{List, ◌++◌}
use mathlib.Core.Logic.{dite}
use mathlib.Core.Path.{◌≡◌, sym, ap, ◌∙◌}
use native.Mathlib.Decide.{ℕ_discrete}
use native.Mathlib.Omega.{arith}
use borrow.Author.Tests.{eq-eqb, ne_eqb}
use lib.Dec.{eqb}
use lib.IntN.{ℤ}
use lib.ListN.{length, drop, length-append, length-drop}
use lib.Seq.{drop_at}
use Rattle.verdict.specs.Verdict.{number_of}
use Rattle.contents.specs.File.{areas_of}
use Rattle.dayfile.specs.Check.{check_of}
use Rattle.settlement.specs.Settlement.{numbers_needed, statement_to, days_by, own_days, settle_of}
use Rattle.settlement.proofs.Accepted.{sound_file, refused, settled}
use Rattle.settlement.proofs.Areas.{statement_length}
use Rattle.settlement.proofs.Room.{check_accepts, room_enough}
use Rattle.month_rules.specs.Month.{numbers_taken, settled_day}

module _ (n yes no : ℕ) where
  where-zero : n ≡ 0 → cond (eqb n 0) yes no ≡ yes
  where-zero h = rw (eq-eqb n 0 h)

  where-not : (n ≡ 0 → ⊥) → cond (eqb n 0) yes no ≡ no
  where-not h = rw (ne_eqb n 0 h)

module _ (file : List ℕ) where
  pub taken_needed : number_of (check_of file) ≡ 0 → numbers_taken file ≡ numbers_needed file
  unfolding numbers_taken
  taken_needed h = where-zero (number_of (check_of file)) (numbers_needed file) 0 h

  pub taken_none : (number_of (check_of file) ≡ 0 → ⊥) → numbers_taken file ≡ 0
  unfolding numbers_taken
  taken_none h = where-not (number_of (check_of file)) (numbers_needed file) 0 h

  module _ (statement : List ℤ) where
    -- a refusal leaves the statement as it was
    pub day_refused : (number_of (settle_of file (length statement)) ≡ 0 → ⊥) → settled_day file statement ≡ statement
    day_refused h = sym (refused (days_by own_days file) file _ statement h)

    pub day_settled : number_of (settle_of file (length statement)) ≡ 0
        → settled_day file statement ≡ statement_to (days_by own_days file) file (areas_of file) ++ drop (numbers_needed file) statement
    day_settled z = sym (settled (days_by own_days file) file _ statement z)

    module _ (z : number_of (settle_of file (length statement)) ≡ 0) where
      checked : number_of (check_of file) ≡ 0
      checked = check_accepts (days_by own_days file) file (length statement) z

      needed-there : numbers_needed file ≤ length statement
      needed-there = room_enough (days_by own_days file) file (length statement) z

      pub day_long : length (statement_to (days_by own_days file) file (areas_of file)) ≡ numbers_needed file
      day_long = statement_length file (sound_file file checked) (days_by own_days file) (areas_of file) (omega arith)

      settled-length : length (settled_day file statement) ≡ length statement
      settled-length =
          ap length (day_settled z)
          ∙ length-append (statement_to (days_by own_days file) file (areas_of file)) (drop (numbers_needed file) statement)
          ∙ omega (arith, day_long, needed-there, length-drop (numbers_needed file) statement)

      settled-behind : drop (numbers_taken file) (settled_day file statement) ≡ drop (numbers_taken file) statement
      settled-behind =
          rw (taken_needed checked, day_settled z)
          (drop_at (statement_to (days_by own_days file) file (areas_of file)) (drop (numbers_needed file) statement) (numbers_needed file) day_long)

    pub day_length : length (settled_day file statement) ≡ length statement
    day_length = dite (ℕ_discrete (number_of (settle_of file (length statement))) 0) settled-length (λ h. ap length (day_refused h))

    -- behind the numbers that the day takes the statement is as it was
    pub day_behind : drop (numbers_taken file) (settled_day file statement) ≡ drop (numbers_taken file) statement
    day_behind = dite (ℕ_discrete (number_of (settle_of file (length statement))) 0) settled-behind (λ h. ap (drop (numbers_taken file)) (day_refused h))

-- What one day's file answers, by the room that it has.
use Prim.Native.Nat.{ℕ, ◌≤◌, ◌<◌}
use mathlib.Core.List.{List}
use mathlib.Core.Logic.{dite}
use mathlib.Core.Path.{◌≡◌, sym, ◌∙◌}
use native.Mathlib.Decide.{ℕ_discrete}
use native.Mathlib.Omega.{arith}
use borrow.Author.Tests.{le-leb, lt-leb}
use Rattle.std.specs.Prelude.{Err}
use Rattle.verdict.specs.declared.Refusal.TheVariants.{RoomTooShort}
use Rattle.verdict.specs.Verdict.{number_of, coded, Verdict}
use Rattle.verdict.proofs.Accepted.{accepted_place}
use Rattle.verdict.proofs.First.{or_next, or_stop}
use Rattle.contents.specs.File.{areas_of}
use Rattle.dayfile.specs.Check.{check_of}
use Rattle.dayfile.proofs.Facts.{within_limits, file_head}
use Rattle.settlement.specs.Settlement.{numbers_needed, areas_refusal, accepted_rule, days_by, own_days, settle_of}
use Rattle.settlement.proofs.Accepted.{opened}
use Rattle.settlement.proofs.Areas.{needed_within}
use Rattle.month_rules.specs.Month.{numbers_taken}
use Rattle.month_rules.proofs.OneDay.{taken_needed}

-- 0 stands in the table just for a day that is settled
pub coded_zero : (verdict : Verdict) → number_of verdict ≡ 0 → coded verdict ≡ 0
unfolding coded
coded_zero verdict z = omega (arith, accepted_place verdict z)

pub zero_coded : (verdict : Verdict) → coded verdict ≡ 0 → number_of verdict ≡ 0
unfolding coded
zero_coded verdict z = omega arith

module _ (file : List ℕ) where
  pub by_check : (room : ℕ) → (number_of (check_of file) ≡ 0 → ⊥) → settle_of file room ≡ check_of file
  by_check room h = opened file room ∙ or_stop (check_of file) _ h

  module _ (passes : number_of (check_of file) ≡ 0) where
    past_check : (room : ℕ) → settle_of file room ≡ accepted_rule (days_by own_days file) file room
    past_check room = opened file room ∙ or_next (check_of file) _ passes

    pub by_room : (room : ℕ) → room < numbers_needed file → settle_of file room ≡ Err (RoomTooShort (numbers_needed file))
    unfolding accepted_rule
    by_room room h = past_check room ∙ rw (lt-leb (numbers_needed file) room h)

    enough : (room : ℕ) → numbers_needed file ≤ room → settle_of file room ≡ areas_refusal (days_by own_days file) file
    unfolding accepted_rule
    enough room h = past_check room ∙ rw (le-leb (numbers_needed file) room h)

    pub some_needed : 0 < numbers_needed file
    some_needed = omega (arith, needed_within file 0 (areas_of file) (file_head _ file (within_limits file passes)).some)

  -- with room for the numbers that it takes, it answers what it answers in room for just those that it needs
  pub with_room : (room : ℕ) → numbers_taken file ≤ room → settle_of file room ≡ settle_of file (numbers_needed file)
  with_room room h =
      dite (ℕ_discrete (number_of (check_of file)) 0)
      (λ z. enough z room (omega (arith, h, taken_needed file z)) ∙ sym (enough z (numbers_needed file) (omega arith)))
      (λ z. by_check room z ∙ sym (by_check (numbers_needed file) z))

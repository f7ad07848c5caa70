-- The room of a statement: what an acceptance says of it.
use Prim.Native.Nat.{ℕ, ◌≤◌}
use mathlib.Core.List.{List}
use mathlib.Core.Path.{◌≡◌}
use lib.Dec.{leb}
use borrow.Author.Tests.{leb-true}
use Rattle.verdict.specs.Verdict.{number_of}
use Rattle.verdict.proofs.First.{kept, or_first, or_second}
use Rattle.dayfile.specs.Check.{check_of}
use Rattle.settlement.specs.Settlement.{numbers_needed, areas_refusal, accepted_rule, settle_with}

module _ (days : ℕ → ℕ) (file : List ℕ) where
  pub needed_fits : (room : ℕ) → number_of (accepted_rule days file room) ≡ 0 → numbers_needed file ≤ room
  unfolding accepted_rule
  needed_fits room z = leb-true _ _ (kept (leb (numbers_needed file) room) _ (areas_refusal days file) z).0

  pub check_accepts : (room : ℕ) → number_of (settle_with days file room) ≡ 0 → number_of (check_of file) ≡ 0
  unfolding settle_with
  check_accepts room z = or_first _ _ z

  pub room_enough : (room : ℕ) → number_of (settle_with days file room) ≡ 0 → numbers_needed file ≤ room
  unfolding settle_with
  room_enough room z = needed_fits room (or_second (check_of file) _ z)

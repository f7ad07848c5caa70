-- All that is refused, in parts, and what an acceptance says.
use Prim.Native.Nat.{ℕ, ◌≤◌}
use mathlib.Core.List.{List, ◌++◌}
use mathlib.Core.Path.{◌≡◌, ◌∙◌}
use native.Mathlib.Omega.{arith}
use borrow.Author.Tests.{leb-true, le-leb, eq-eqb, ne_eqb}
use lib.Dec.{leb}
use lib.IntN.{ℤ}
use lib.ListN.{drop}
use Rattle.verdict.specs.declared.Refusal.TheVariants.{PaymentRoomTooShort}
use Rattle.verdict.specs.Verdict.{number_of, Accepted, Verdict}
use Rattle.verdict.specs.First.{rule◌else◌then◌, ◌or_else◌}
use Rattle.verdict.proofs.First.{kept, or_first, or_second, or_same}
use Rattle.limits.specs.Editions.{most_areas}
use Rattle.limits.proofs.Editions.{areas_most}
use Rattle.contents.specs.File.{edition_of, areas_of}
use Rattle.dayfile.specs.Check.{check_of}
use Rattle.dayfile.proofs.Facts.{within_limits, file_head}
use Rattle.settlement.specs.Settlement.{most_numbers, numbers_needed, areas_refusal, accepted_rule, days_by, own_days, settle_of}
use Rattle.settlement.proofs.Accepted.{opened, sound_file}
use Rattle.settlement.proofs.Places.{needed_most}
use Rattle.payout_rules.specs.PayOut.{basis_rule, payments_needed, payments_of, pay_out_rule, payments_after}
use Rattle.payout_rules.specs.Payable.{Payable}
use Rattle.payout_rules.proofs.Basis.{basis_long}

-- what settling refuses where every statement fits: never 13
pub never_thirteen : (file : List ℕ) → settle_of file most_numbers ≡ (check_of file or_else areas_refusal (days_by own_days file) file)
unfolding accepted_rule
never_thirteen file =
    opened file most_numbers
    ∙ or_same (check_of file) _ _ (λ accepted. rw (le-leb (numbers_needed file) most_numbers (needed_most file accepted)))

-- room for every area
pub areas_few : (file : List ℕ) → number_of (check_of file) ≡ 0 → areas_of file ≤ most_areas
areas_few file accepted = omega (arith, (file_head _ file (within_limits file accepted)).few, areas_most (edition_of file))

-- 24
abbrev room_rule : (file : List ℕ) (room : ℕ) → Verdict
room_rule file room = rule leb (payments_needed file) room else PaymentRoomTooShort (payments_needed file) then Accepted

module _ (file basis : List ℕ) (room : ℕ) where
  -- 23, then 24
  abbrev behind_settling : Verdict
  behind_settling = basis_rule basis (areas_of file) or_else room_rule file room

  module _ (accepted : number_of (pay_out_rule file basis room) ≡ 0) where
    pub settling_accepted : number_of (check_of file or_else areas_refusal (days_by own_days file) file) ≡ 0
    unfolding pay_out_rule
    settling_accepted = or_first _ _ accepted

    pub file_accepted : number_of (check_of file) ≡ 0
    file_accepted = or_first _ _ settling_accepted

    behind-accepted : number_of behind_settling ≡ 0
    unfolding pay_out_rule
    behind-accepted = or_second (check_of file or_else areas_refusal (days_by own_days file) file) _ accepted

    pub basis_accepted : number_of (basis_rule basis (areas_of file)) ≡ 0
    basis_accepted = or_first _ _ behind-accepted

    pub room_enough : payments_needed file ≤ room
    room_enough =
        leb-true _ _
        (kept (leb (payments_needed file) room) (PaymentRoomTooShort (payments_needed file)) Accepted
        (or_second (basis_rule basis (areas_of file)) _ behind-accepted)).0

    pub payable : Payable file basis room
    payable =
        record {
          sound = sound_file file file_accepted;
          few = areas_few file file_accepted;
          counted = basis_long basis (areas_of file) basis_accepted;
          room_enough = room_enough;
        }

-- ---- the payments after a refusal, and after none

module _ (file basis : List ℕ) (verdict : Verdict) (payments : List ℤ) where
  pub refused : (number_of verdict ≡ 0 → ⊥) → payments_after file basis verdict payments ≡ payments
  unfolding payments_after
  refused h = rw (ne_eqb (number_of verdict) 0 h)

  pub paid_out_then : number_of verdict ≡ 0 → payments_after file basis verdict payments ≡ payments_of file basis ++ drop (payments_needed file) payments
  unfolding payments_after
  paid_out_then h = rw (eq-eqb (number_of verdict) 0 h)

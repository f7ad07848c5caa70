-- What is collected is what the statement shows that `settle` leaves of the same file: whatever is paid out is settled where the statement has its room.
use Prim.Native.Nat.{ℕ, ◌≤◌, ◌<◌}
use mathlib.Core.List.{List}
use mathlib.Core.Path.{◌≡◌, sym, ap, ap₂, ◌∙◌}
use native.Mathlib.Omega.{arith}
use borrow.Author.Tests.{le-leb}
use lib.IntN.{ℤ, ◌+ℤ◌}
use lib.ListN.{length}
use Rattle.limits.specs.Ranges.{day_hours}
use Rattle.verdict.specs.Verdict.{number_of}
use Rattle.verdict.proofs.First.{or_same}
use Rattle.contents.specs.File.{areas_of}
use Rattle.dayfile.specs.Check.{check_of}
use Rattle.shares.specs.Shares.{sum}
use Rattle.settlement.specs.Settlement.{numbers_needed, areas_refusal, accepted_rule, days_by, own_days, settle_of}
use Rattle.settlement.specs.Shown.{statement_left_by}
use Rattle.settlement.proofs.Accepted.{opened}
use Rattle.settlement.proofs.Shown.{on_peak_shown_lem, off_peak_shown_lem, downward_shown_lem}
use Rattle.collecting.specs.Directions.{Direction, Upward, Downward, amount_in}
use Rattle.paying.specs.Columns.{each}
use Rattle.paying.proofs.Columns.{each_same}
use Rattle.payout_rules.specs.PayOut.{collected_from, collected_at, pay_out_rule}
use Rattle.payout_rules.proofs.Rule.{settling_accepted}
use Rattle.payout_theorems.specs.PaidOut.{amount_shown}

module _ (file basis : List ℕ) (room : ℕ) (z : number_of (pay_out_rule file basis room) ≡ 0) (statement : List ℤ)
    (fits : numbers_needed file ≤ length statement) where
  pub settled : number_of (settle_of file (length statement)) ≡ 0
  unfolding accepted_rule
  settled =
      let same = or_same (check_of file) (accepted_rule (days_by own_days file) file (length statement)) (areas_refusal (days_by own_days file) file)
      (λ accepted. rw (le-leb (numbers_needed file) (length statement) fits)) in
      ap number_of (opened file (length statement) ∙ same) ∙ settling_accepted file basis room z

  abbrev left : List ℤ
  left = statement_left_by own_days file statement

  pub amount_shown_lem : (k h : ℕ) (direction : Direction) → k < areas_of file → h < day_hours
      → collected_from file k h direction ≡ amount_shown file left k h direction
  unfolding amount_in
  amount_shown_lem k h Upward area hour =
      sym (ap₂ ◌+ℤ◌ (on_peak_shown_lem own_days file statement settled k h area hour) (off_peak_shown_lem own_days file statement settled k h area hour))
  amount_shown_lem k h Downward area hour = sym (downward_shown_lem own_days file statement settled k h area hour)

  pub collected_shown : (h : ℕ) (direction : Direction) → h < day_hours
      → collected_at file h direction ≡ sum (each (λ k. amount_shown file left k h direction) 0 (areas_of file))
  unfolding collected_at
  collected_shown h direction hour =
      ap sum
      (each_same (λ k. collected_from file k h direction) (λ k. amount_shown file left k h direction) 0 (areas_of file)
      (λ k p. amount_shown_lem k h direction (omega arith) hour))

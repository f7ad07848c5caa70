-- "Payments and the unpaid rest sum to the collected amount", in every hour and direction; over the day all payments and rests add up to all amounts of the
-- statement that `settle` writes for the same file: 8088 pays out what 8080 collects.
use Prim.Native.Nat.{ℕ, ◌+◌, ◌≤◌, ◌<◌}
use mathlib.Core.List.{List}
use mathlib.Core.Logic.{inr, dite}
use mathlib.Core.Path.{◌≡◌, sym, ap, ap₂, ◌∙◌}
use native.Mathlib.Decide.{ℕ_discrete}
use native.Mathlib.Omega.{arith}
use borrow.Author.Tests.{eq-eqb, ne_eqb}
use lib.IntN.{ℤ, ◌+ℤ◌, +ℤ_idl, +ℤ_idr}
use lib.ListN.{length}
use Rattle.exact.proofs.Difference.{crosswise}
use Rattle.exact.specs.Total.{total}
use Rattle.limits.specs.Ranges.{day_hours}
use Rattle.verdict.specs.Verdict.{number_of}
use Rattle.contents.specs.File.{areas_of}
use Rattle.shares.specs.Shares.{shares, sum}
use Rattle.shares.proofs.AddsUp.{adds_up}
use Rattle.shares.proofs.NoDemand.{no_demand_at_all}
use Rattle.settlement.specs.Settlement.{numbers_needed, own_days}
use Rattle.settlement.specs.Shown.{statement_left_by, on_peak_shown, off_peak_shown, downward_shown}
use Rattle.collecting.specs.Directions.{Direction, Upward, Downward, day_of}
use Rattle.paying.specs.Paid.{rest_of}
use Rattle.paying.specs.Columns.{each}
use Rattle.paying.proofs.Columns.{each_same}
use Rattle.payout_rules.specs.PayOut.{areas_to, collected_from, collected_at, passing_basis, payment_at, rest_at, payments_of, pay_out_rule}
use Rattle.payout_theorems.specs.PaidOut.{payments_left, amount_shown, all_amounts, PaidOut}
use Rattle.payout_theorems.proofs.Sums.{sum-append, sum_both, sum_swapped, both_of, sum_day, sum_areas}
use Rattle.payout_theorems.proofs.Shown.{own_shares, front_is, rest_shown_lem, shown_shares}
use Rattle.payout_theorems.proofs.Collected.{amount_shown_lem, collected_shown}

-- shares and the rest add up, whatever is collected
shared_or_left : (collected : ℤ) (basis : List ℕ) → sum (shares collected basis) +ℤ rest_of collected basis ≡ collected
unfolding rest_of
shared_or_left collected basis =
    dite (ℕ_discrete (total basis) 0)
    (λ none. rw (eq-eqb (total basis) 0 none) (ap (λ z. z +ℤ collected) (no_demand_at_all collected basis none) ∙ +ℤ_idl collected))
    (λ some. rw (ne_eqb (total basis) 0 some) (+ℤ_idr (sum (shares collected basis)) ∙ adds_up collected basis (inr (omega arith))))

-- ---- over the definitions

module _ (file basis : List ℕ) where
  abbrev n : ℕ
  n = areas_of file

  -- what is paid to all areas, and what is collected from them
  abbrev paid : ℕ → Direction → ℤ
  paid h direction = sum (each (λ k. payment_at file basis k h direction) 0 n)

  adds-up-to : (h : ℕ) (direction : Direction) → paid h direction +ℤ rest_at file basis h direction ≡ collected_at file h direction
  unfolding rest_at
  adds-up-to h direction =
      ap (λ l. sum l +ℤ rest_of (collected_at file h direction) (passing_basis file basis h direction)) (own_shares file basis h direction)
      ∙ shared_or_left (collected_at file h direction) (passing_basis file basis h direction)

  -- both directions of an hour
  hour-adds-up : (h : ℕ) → sum (each (λ k. both_of (payment_at file basis k) h) 0 n) +ℤ both_of (rest_at file basis) h
      ≡ sum (each (λ k. both_of (collected_from file k) h) 0 n)
  unfolding collected_at
  hour-adds-up h =
      ap (λ z. z +ℤ both_of (rest_at file basis) h) (sum_both (λ k. payment_at file basis k h Upward) (λ k. payment_at file basis k h Downward) 0 n)
      ∙ crosswise (paid h Upward) (paid h Downward) (rest_at file basis h Upward) (rest_at file basis h Downward)
      ∙ ap₂ ◌+ℤ◌ (adds-up-to h Upward) (adds-up-to h Downward)
      ∙ sym (sum_both (λ k. collected_from file k h Upward) (λ k. collected_from file k h Downward) 0 n)

  day-adds-up : sum (payments_of file basis) ≡ sum (each (λ k. sum (each (both_of (collected_from file k)) 0 day_hours)) 0 n)
  unfolding payments_of
  day-adds-up =
      let payments : ℕ → ℤ = λ h. sum (each (λ k. both_of (payment_at file basis k) h) 0 n) in
      let rests : ℕ → ℤ = both_of (rest_at file basis) in
      let amounts : ℕ → ℤ = λ h. sum (each (λ k. both_of (collected_from file k) h) 0 n) in
      sum-append (areas_to (payment_at file basis) n) (day_of (rest_at file basis))
      ∙ ap₂ ◌+ℤ◌ (sum_areas (payment_at file basis) n ∙ sum_swapped (λ k. both_of (payment_at file basis k)) day_hours 0 n) (sum_day (rest_at file basis))
      ∙ sym (sum_both payments rests 0 day_hours)
      ∙ ap sum (each_same (λ h. payments h +ℤ rests h) amounts 0 day_hours (λ h p. hour-adds-up h))
      ∙ sym (sum_swapped (λ k. both_of (collected_from file k)) day_hours 0 n)

-- ---- over what the two calls leave

module _ (file basis : List ℕ) (payments : List ℤ) (z : number_of (pay_out_rule file basis (length payments)) ≡ 0) (statement : List ℤ)
    (fits : numbers_needed file ≤ length statement) where
  abbrev left : List ℤ
  left = payments_left file basis payments

  abbrev settled : List ℤ
  settled = statement_left_by own_days file statement

  collected-is : sum (each (λ k. sum (each (both_of (collected_from file k)) 0 day_hours)) 0 (areas_of file)) ≡ all_amounts file settled
  unfolding all_amounts
  collected-is =
      ap sum
      (each_same (λ k. sum (each (both_of (collected_from file k)) 0 day_hours))
      (λ k. sum (each (λ h. on_peak_shown file k h settled +ℤ off_peak_shown file k h settled +ℤ downward_shown file k h settled) 0 day_hours)) 0 (areas_of file)
      (λ k p. ap sum
      (each_same (both_of (collected_from file k))
      (λ h. on_peak_shown file k h settled +ℤ off_peak_shown file k h settled +ℤ downward_shown file k h settled) 0 day_hours
      (λ h q. ap₂ ◌+ℤ◌ (shown k h Upward p q) (shown k h Downward p q)))))
    where
      shown : (k h : ℕ) (direction : Direction) → k < 0 + areas_of file → h < 0 + day_hours
          → collected_from file k h direction ≡ amount_shown file settled k h direction
      shown k h direction p q = amount_shown_lem file basis (length payments) z statement fits k h direction (omega arith) (omega arith)

  pub paid_out : PaidOut file left settled
  paid_out =
      record {
        hour = λ h direction below.
            ap₂ ◌+ℤ◌ (ap sum (shown_shares file basis payments z h direction below ∙ sym (own_shares file basis h direction)))
            (rest_shown_lem file basis payments z h direction below)
            ∙ adds-up-to file basis h direction
            ∙ collected_shown file basis (length payments) z statement fits h direction below;
        day = ap sum (front_is file basis payments z) ∙ day-adds-up file basis ∙ collected-is;
      }

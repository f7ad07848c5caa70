-- What the payments that `pay_out` leaves show, read off by their places, and what the theorems say of them.
use Rattle.std.specs.Prelude.{ℕ, suc, ◌+◌, ◌*◌, ◌<◌, Bool, false, cond, List, [], ◌∷◌, map, ◌≡◌, ℤ, pos, neg_ℤ, nat_abs, ◌+ℤ◌, length, get_or, take}
use Rattle.exact.specs.Total.{total}
use Rattle.limits.specs.Ranges.{day_hours, day_payments}
use Rattle.contents.specs.File.{areas_of, body_at}
use Rattle.shares.specs.Shares.{shares, sum, apart, merged_at, SameSign}
use Rattle.settlement.specs.Shown.{on_peak_shown, off_peak_shown, downward_shown}
use Rattle.collecting.specs.Directions.{Direction, Upward, Downward, passes, column_at}
use Rattle.paying.specs.Columns.{each}
use Rattle.payout_rules.specs.PayOut.{basis_at, collected_at, basis_of, passing_basis, payments_needed, pay_out_rule, payments_after}

-- the payments that the call leaves of those that were lent
abbrev pub payments_left : (file basis : List ℕ) → List ℤ → List ℤ
payments_left file basis payments = payments_after file basis (pay_out_rule file basis (length payments)) payments

-- ---- read off the payments

module _ (file : List ℕ) (left : List ℤ) (h : ℕ) (direction : Direction) where
  -- of area k, from 0
  abbrev pub payment_shown : ℕ → ℤ
  payment_shown k = get_or left (day_payments * k + column_at h direction) (pos 0)

  -- of all areas, in file order
  abbrev pub payments_shown : List ℤ
  payments_shown = each payment_shown 0 (areas_of file)

  abbrev pub rest_shown : ℤ
  rest_shown = get_or left (day_payments * areas_of file + column_at h direction) (pos 0)

-- ---- read off the statement

module _ (file : List ℕ) (statement : List ℤ) where
  -- what area k is charged in an hour and direction
  abbrev pub amount_shown : ℕ → ℕ → Direction → ℤ
  amount_shown k h Upward = on_peak_shown file k h statement +ℤ off_peak_shown file k h statement
  amount_shown k h Downward = downward_shown file k h statement

  -- what all areas are, over the day
  unfoldable pub all_amounts : ℤ
  all_amounts =
      sum
      (each
      (λ k. sum (each (λ h. on_peak_shown file k h statement +ℤ off_peak_shown file k h statement +ℤ downward_shown file k h statement) 0 day_hours))
      0
      (areas_of file))

-- "Payments and the unpaid rest sum to the collected amount": `left` is what `pay_out` leaves, `statement` what `settle` leaves of the same file
pub record PaidOut (file : List ℕ) (left statement : List ℤ) : Type 0 where
  -- in every hour and direction, to what the statement shows
  pub hour : (h : ℕ) (direction : Direction) → h < day_hours
      → sum (payments_shown file left h direction) +ℤ rest_shown file left h direction
      ≡ sum (each (λ k. amount_shown file statement k h direction) 0 (areas_of file))
  -- over the day: all payments and rests, and all amounts
  pub day : sum (take (payments_needed file) left) ≡ all_amounts file statement

-- each payment of an hour and direction
pub record Payments (file basis : List ℕ) (left : List ℤ) (h : ℕ) (direction : Direction) : Type 0 where
  -- less than a cent from its exact share: T × payment and collected × basis differ by less than T
  pub within_a_cent : (k : ℕ) → k < areas_of file → 0 < total (passing_basis file basis h direction)
      → nat_abs
      (apart (total (passing_basis file basis h direction)) (collected_at file h direction) (payment_shown file left h direction k)
      (basis_of file basis k h direction))
      < total (passing_basis file basis h direction)
  -- "non-passing ones get 0"
  pub not_passing : (k : ℕ) → k < areas_of file → passes (body_at file k) h direction ≡ false → payment_shown file left h direction k ≡ pos 0
  -- the sign of what was collected
  pub sign : (k : ℕ) → k < areas_of file → SameSign (collected_at file h direction) (payment_shown file left h direction k)
  -- "the rest is all of it when nobody passes or the passing basis is 0, else 0"
  pub nobody : ((k : ℕ) → k < areas_of file → passes (body_at file k) h direction ≡ false) → rest_shown file left h direction ≡ collected_at file h direction
  pub no_basis : total (passing_basis file basis h direction) ≡ 0 → rest_shown file left h direction ≡ collected_at file h direction
  pub some_basis : 0 < total (passing_basis file basis h direction) → rest_shown file left h direction ≡ pos 0

-- of a list with a number for each area, from area k on, those of the areas that pass
unfoldable pub passing_only : {A : Type 0} → (ℕ → Bool) → ℕ → List A → List A
passing_only pass k [] = []
passing_only pass k (number ∷ numbers) = cond (pass k) (number ∷ passing_only pass (suc k) numbers) (passing_only pass (suc k) numbers)

-- they are shares as charges are, so that what holds of shares holds of them
pub record Shared (file basis : List ℕ) (left : List ℤ) (h : ℕ) (direction : Direction) : Type 0 where
  pub shared : payments_shown file left h direction ≡ shares (collected_at file h direction) (passing_basis file basis h direction)
  -- those of the areas that pass are the shares by the basis of these alone
  pub among_passing : shares (collected_at file h direction) (passing_only (λ k. passes (body_at file k) h direction) 0 (basis_at basis (areas_of file) h))
      ≡ passing_only (λ k. passes (body_at file k) h direction) 0 (payments_shown file left h direction)
  -- the negated amount would be paid out as the negated payments
  pub turned : shares (neg_ℤ (collected_at file h direction)) (passing_basis file basis h direction) ≡ map neg_ℤ (payments_shown file left h direction)
  -- n neighbours from area i on, taken for one with their basis added, would be paid what they are paid together, and every other area the same
  pub merged : (i n : ℕ) → shares (collected_at file h direction) (merged_at total i n (passing_basis file basis h direction))
      ≡ merged_at sum i n (payments_shown file left h direction)

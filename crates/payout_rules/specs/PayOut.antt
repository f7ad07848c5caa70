-- Paying out under 8088 (docs/RULES.md, section 14): what was collected goes to the areas that passed.
use Rattle.std.specs.Prelude.{ℕ, zero, suc, ◌+◌, ◌*◌, Bool, true, cond, ◌&&◌, List, [], ◌∷◌, ◌++◌, eqb, leb, ℤ, pos, length, get_or, drop}
use Rattle.exact.specs.Total.{total}
use Rattle.limits.specs.Ranges.{day_hours, day_payments, most_basis}
use Rattle.verdict.specs.declared.Refusal.TheVariants.{BadBasis, PaymentRoomTooShort}
use Rattle.verdict.specs.Verdict.{number_of, Accepted, Verdict}
use Rattle.verdict.specs.First.{rule◌else◌then◌, ◌or_else◌, scan}
use Rattle.contents.specs.File.{areas_of, body_at}
use Rattle.dayfile.specs.Check.{check_of}
use Rattle.shares.specs.Shares.{shares, sum}
use Rattle.settlement.specs.Settlement.{terms_by, days_by, own_days, areas_refusal}
use Rattle.collecting.specs.Directions.{Direction, amount_in, passes, day_of}
use Rattle.paying.specs.Paid.{rest_of}
use Rattle.paying.specs.Columns.{each}

-- "by area, then hour, upward before downward": the first n areas
unfoldable pub areas_to : {A : Type 0} → (ℕ → ℕ → Direction → A) → ℕ → List A
areas_to numbers zero = []
areas_to numbers (suc k) = areas_to numbers k ++ day_of (numbers k)

-- ---- 23

-- every number is at most m
abbrev pub all_within : ℕ → List ℕ → Bool
all_within m [] = true
all_within m (number ∷ numbers) = leb number m && all_within m numbers

module _ (basis : List ℕ) where
  -- "a basis for each area and hour, areas in file order"
  abbrev pub basis_number : (k h : ℕ) → ℕ
  basis_number k h = get_or basis (day_hours * k + h) 0

  -- that of hour h for each of n areas, passing or not
  abbrev pub basis_at : (n h : ℕ) → List ℕ
  basis_at n h = each (λ k. basis_number k h) 0 n

  -- "0 to 10,000,000, summing to at most that per hour"
  unfoldable pub hour_basis_rule : (n h : ℕ) → Verdict
  hour_basis_rule n h =
      rule all_within most_basis (basis_at n h) else BadBasis then
      rule leb (total (basis_at n h)) most_basis else BadBasis then
      Accepted

  -- "23, basis not 24 numbers an area, or out of range or sum"
  unfoldable pub basis_rule : (n : ℕ) → Verdict
  basis_rule n = rule eqb (length basis) (day_hours * n) else BadBasis then scan (hour_basis_rule n) 0 day_hours

-- ---- the payments

module _ (file : List ℕ) where
  -- what is collected from area k; d is the file's own
  abbrev pub collected_from : ℕ → ℕ → Direction → ℤ
  collected_from k = amount_in (terms_by own_days file k) (body_at file k)

  -- "For each hour and direction, the collected amount is the sum over all areas of the file"
  unfoldable pub collected_at : ℕ → Direction → ℤ
  collected_at h direction = sum (each (λ k. collected_from k h direction) 0 (areas_of file))

  -- a row for each area, and one for the rests
  abbrev pub payments_needed : ℕ
  payments_needed = day_payments * (areas_of file + 1)

module _ (file basis : List ℕ) where
  -- the basis of area k, 0 where it does not pass
  abbrev pub basis_of : ℕ → ℕ → Direction → ℕ
  basis_of k h direction = cond (passes (body_at file k) h direction) (basis_number basis k h) 0

  -- that of each area "in file order"
  unfoldable pub passing_basis : ℕ → Direction → List ℕ
  passing_basis h direction = each (λ k. basis_of k h direction) 0 (areas_of file)

  -- "payments are shares of the collected amount by running totals over the passing areas in file order, and non-passing ones get 0": that of area k
  unfoldable pub payment_at : ℕ → ℕ → Direction → ℤ
  payment_at k h direction = get_or (shares (collected_at file h direction) (passing_basis h direction)) k (pos 0)

  unfoldable pub rest_at : ℕ → Direction → ℤ
  rest_at h direction = rest_of (collected_at file h direction) (passing_basis h direction)

  -- "Payments stand by area, then hour, upward before downward; the 24 pairs of rests follow"
  unfoldable pub payments_of : List ℤ
  payments_of = areas_to payment_at (areas_of file) ++ day_of rest_at

  -- ---- the call

  -- "Refusals, after those of settlement (never 13, no statement is lent): 23 ..; 24, payment room too short, place the numbers needed"
  unfoldable pub pay_out_rule : (room : ℕ) → Verdict
  pay_out_rule room =
      (check_of file or_else areas_refusal (days_by own_days file) file)
      or_else (basis_rule basis (areas_of file)
      or_else (rule leb (payments_needed file) room else PaymentRoomTooShort (payments_needed file) then Accepted))

  -- the payments afterwards: a refusal leaves them as they were, numbers past the needed ones stay
  unfoldable pub payments_after : Verdict → List ℤ → List ℤ
  payments_after verdict payments = cond (eqb (number_of verdict) 0) (payments_of ++ drop (payments_needed file) payments) payments

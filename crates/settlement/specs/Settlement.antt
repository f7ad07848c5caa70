-- The settlement of a day file (docs/RULES.md, sections 9 and 10): the numbers needed, the statement, and the first refusal.
-- `days k` is the persistent days d that area k is settled with.
use Rattle.std.specs.Prelude.{ℕ, zero, suc, ◌+◌, ◌*◌, ◌-◌, ◌/◌, Bool, cond, not, ◌||◌, List, [], ◌++◌, eqb, leb, ltb, ℤ, nat_abs, length, get_or, drop}
use Rattle.exact.specs.Total.{total}
use Rattle.limits.specs.Ranges.{day_hours, most_coordinators}
use Rattle.limits.specs.Editions.{most_areas, most_bytes}
use Rattle.verdict.specs.declared.Refusal.TheVariants.{AmountWithoutDemand, RoomTooShort}
use Rattle.verdict.specs.Verdict.{number_of, Accepted, Verdict}
use Rattle.verdict.specs.First.{rule◌else◌then◌, ◌or_else◌, scan}
use Rattle.body.specs.Layout.{kind_of, days_of, coordinators_of, demands_at, demands_of}
use Rattle.contents.specs.File.{areas_of, peak_of, number_at, start_at, body_at}
use Rattle.dayfile.specs.Check.{check_of}
use Rattle.surcharge.specs.declared.Terms.{Terms}
use Rattle.amounts.specs.Amounts.{amount_at, price_rule}
use Rattle.statement.specs.Block.{area_numbers, block}

-- the numbers of the longest statement of any edition: one area is CISO with the most coordinators, every other has one
abbrev pub most_numbers : ℕ
most_numbers = area_numbers most_coordinators + (most_areas - 1) * area_numbers 1

-- the largest place of a refusal: the words of the longest file
abbrev pub most_place : ℕ
most_place = most_bytes / 4

module _ (file : List ℕ) where
  -- the numbers of the first n areas
  unfoldable pub needed_to : ℕ → ℕ
  needed_to zero = 0
  needed_to (suc k) = needed_to k + area_numbers (coordinators_of (body_at file k))

  -- the sum of 24(5 + K)
  abbrev pub numbers_needed : ℕ
  numbers_needed = needed_to (areas_of file)

-- ---- the refusals of an hour

-- there is somebody to charge: not so for "kind 1, A not 0, T = 0"
unfoldable pub chargeable : Terms → List ℕ → ℕ → Bool
chargeable terms body h = not (eqb (kind_of body) 1) || (eqb (nat_abs (amount_at terms body h)) 0 || ltb 0 (total (demands_of body h)))

unfoldable pub charge_rule : Terms → (start : ℕ) → List ℕ → ℕ → Verdict
charge_rule terms start body h = rule chargeable terms body h else AmountWithoutDemand (start + demands_at body h) then Accepted

-- its price, 16 and 11, then its charge, 12
unfoldable pub hour_refusal : Terms → (start : ℕ) → List ℕ → ℕ → Verdict
hour_refusal terms start body h = price_rule terms start body h or_else charge_rule terms start body h

unfoldable pub hours_refusal : Terms → (start : ℕ) → List ℕ → Verdict
hours_refusal terms start body = scan (hour_refusal terms start body) 0 day_hours

-- ---- the file

module _ (days : ℕ → ℕ) (file : List ℕ) where
  -- what area k's day is settled under
  abbrev pub terms_at : ℕ → Terms
  terms_at k = record { peak = peak_of file; days = days k }

  -- the blocks of the first n areas, in file order
  unfoldable pub statement_to : ℕ → List ℤ
  statement_to zero = []
  statement_to (suc k) = statement_to k ++ block (terms_at k) (body_at file k)

  unfoldable pub area_refusal : ℕ → Verdict
  area_refusal k = hours_refusal (terms_at k) (start_at file k) (body_at file k)

  -- "areas and hours in order"
  unfoldable pub areas_refusal : Verdict
  areas_refusal = scan area_refusal 0 (areas_of file)

  -- of a file that the check accepts: 13, then areas and hours in order
  unfoldable pub accepted_rule : ℕ → Verdict
  accepted_rule room = rule leb (numbers_needed file) room else RoomTooShort (numbers_needed file) then areas_refusal

  -- the check's 1 to 10 before that
  unfoldable pub settle_with : ℕ → Verdict
  settle_with room = check_of file or_else accepted_rule room

  -- the statement afterwards: a refusal leaves it as it was, numbers past the needed ones stay
  unfoldable pub after_with : Verdict → List ℤ → List ℤ
  after_with verdict statement = cond (eqb (number_of verdict) 0) (statement_to (areas_of file) ++ drop (numbers_needed file) statement) statement

-- ---- the d of each area in a list; behind the list's end each has its own

-- that of area k, of this body
unfoldable pub days_in : (days : List ℕ) (k : ℕ) (body : List ℕ) → ℕ
days_in days k body = cond (ltb k (length days)) (get_or days k 0) (days_of body)

-- what it is settled under
abbrev pub terms_in : (peak : ℕ) (days : List ℕ) (k : ℕ) (body : List ℕ) → Terms
terms_in peak days k body = record { peak = peak; days = days_in days k body }

abbrev pub listed : (days file : List ℕ) → ℕ → ℕ
listed days file k = days_in days k (body_at file k)

-- ---- under any d: a function of an area's number and its body

module _ (d : ℕ → List ℕ → ℕ) where
  abbrev pub days_by : List ℕ → ℕ → ℕ
  days_by file k = d (number_at file k) (body_at file k)

  -- what area k's day is settled under
  abbrev pub terms_by : List ℕ → ℕ → Terms
  terms_by file k = terms_at (days_by file) file k

  abbrev pub settle_by : List ℕ → ℕ → Verdict
  settle_by file room = settle_with (days_by file) file room

  abbrev pub after_by : Verdict → List ℕ → List ℤ → List ℤ
  after_by verdict file statement = after_with (days_by file) file verdict statement

-- ---- the file's own d

abbrev pub own_days : ℕ → List ℕ → ℕ
own_days number body = days_of body

abbrev pub settle_of : List ℕ → ℕ → Verdict
settle_of file room = settle_by own_days file room

abbrev pub after : Verdict → List ℕ → List ℤ → List ℤ
after verdict file statement = after_by own_days verdict file statement

-- When settlement under d refuses, and what it answers then: what the check says; else 13; else what the first hour that refuses says.
use Rattle.std.specs.Prelude.{ℕ, ◌+◌, ◌*◌, ◌≤◌, ◌<◌, true, List, ◌⊎◌, ◌≡◌, nat_abs, length, Err}
use Rattle.exact.specs.Total.{total}
use Rattle.limits.specs.Ranges.{day_hours, least_present}
use Rattle.verdict.specs.declared.Refusal.TheVariants.{RoomTooShort}
use Rattle.verdict.specs.Verdict.{number_of, Verdict}
use Rattle.body.specs.Layout.{kind_of, points_of, intervals_at, demands_at, demands_of}
use Rattle.contents.specs.File.{areas_of, start_at, body_at}
use Rattle.dayfile.specs.Check.{check_of}
use Rattle.price.specs.Price.{average_of}
use Rattle.amounts.specs.Amounts.{pairs_from, amount_at, price_needed}
use Rattle.settlement.specs.Settlement.{numbers_needed, hour_refusal, terms_by}
use Rattle.theorems.specs.Seen.{present_at}

abbrev pub Refuses : Verdict → Type 0
Refuses verdict = number_of verdict ≡ 0 → ⊥

-- the quantities of hour h whose price is present, added
abbrev pub quantity_under : List ℕ → ℕ → ℕ
quantity_under body h = (average_of (pairs_from body (intervals_at body h)) (12 * points_of body)).quantity.0

module _ (d : ℕ → List ℕ → ℕ) where
  -- what hour h of area k refuses
  abbrev pub hour_verdict : List ℕ → ℕ → ℕ → Verdict
  hour_verdict file k h = hour_refusal (terms_by d file k) (start_at file k) (body_at file k) h

  -- hour h of area k has a refusal, and no hour before it has: none of an area before, and no earlier one of the same area
  pub record FirstHour (file : List ℕ) (k h : ℕ) : Type 0 where
    pub area : k < areas_of file
    pub hour : h < day_hours
    pub refuses : Refuses (hour_verdict file k h)
    pub areas_before : (j i : ℕ) → j < k → i < day_hours → number_of (hour_verdict file j i) ≡ 0
    pub hours_before : (i : ℕ) → i < h → number_of (hour_verdict file k i) ≡ 0

-- ---- the three ways to be refused with an answer

pub record CheckRefuses (file : List ℕ) (answer : Verdict) : Type 0 where
  pub refuses : Refuses (check_of file)
  pub answered : answer ≡ check_of file

pub record RoomShort (file : List ℕ) (room : ℕ) (answer : Verdict) : Type 0 where
  pub checked : number_of (check_of file) ≡ 0
  pub short : room < numbers_needed file
  pub answered : answer ≡ Err (RoomTooShort (numbers_needed file))

pub record HourRefuses (d : ℕ → List ℕ → ℕ) (file : List ℕ) (room : ℕ) (answer : Verdict) : Type 0 where
  pub checked : number_of (check_of file) ≡ 0
  pub roomy : numbers_needed file ≤ room
  pub k : ℕ
  pub h : ℕ
  pub first : FirstHour d file k h
  pub answered : answer ≡ hour_verdict d file k h

abbrev pub RefusedWith : (ℕ → List ℕ → ℕ) → List ℕ → ℕ → Verdict → Type 0
RefusedWith d file room answer = CheckRefuses file answer ⊎ (RoomShort file room answer ⊎ HourRefuses d file room answer)

-- ---- why an hour is refused, with no order of tests

module _ (d : ℕ → List ℕ → ℕ) (file : List ℕ) where
  -- "A needed price with fewer than 9L present of its 12L"
  abbrev pub TooFewSeen : ℕ → ℕ → Type 0
  TooFewSeen k h =
      let body = body_at file k in
      (price_needed (terms_by d file k) body h ≡ true) × (length (present_at body h) < least_present * points_of body)

  -- "enough prices with no quantity"
  abbrev pub PriceWithout : ℕ → ℕ → Type 0
  PriceWithout k h =
      let body = body_at file k in
      (price_needed (terms_by d file k) body h ≡ true) × (least_present * points_of body ≤ length (present_at body h)) × (quantity_under body h ≡ 0)

  -- "kind 1, A not 0, T = 0"
  abbrev pub NobodyToCharge : ℕ → ℕ → Type 0
  NobodyToCharge k h =
      let body = body_at file k in
      (kind_of body ≡ 1) × (nat_abs (amount_at (terms_by d file k) body h) ≡ 0 → ⊥) × (total (demands_of body h) ≡ 0)

  -- and nothing that is judged before it in the hour
  abbrev pub OnlyNobodyToCharge : ℕ → ℕ → Type 0
  OnlyNobodyToCharge k h = (TooFewSeen k h → ⊥) × (PriceWithout k h → ⊥) × NobodyToCharge k h

  -- Refused for what is said of the first hour that has a refusal, at that hour's place.
  pub record AtFirstHour (room : ℕ) (Because : ℕ → ℕ → Type 0) (place_in : ℕ → ℕ → ℕ) (p : ℕ) : Type 0 where
    pub checked : number_of (check_of file) ≡ 0
    pub enough : numbers_needed file ≤ room
    pub k : ℕ
    pub h : ℕ
    pub first : FirstHour d file k h
    pub because : Because k h
    pub here : p ≡ place_in k h

  -- "first interval word of the hour", "first demand word of the hour"
  abbrev pub first_interval : ℕ → ℕ → ℕ
  first_interval k h = start_at file k + intervals_at (body_at file k) h

  abbrev pub first_demand : ℕ → ℕ → ℕ
  first_demand k h = start_at file k + demands_at (body_at file k) h

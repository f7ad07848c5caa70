-- Numbers for each area, hour and direction: how many they are, and which stands where. And the columns of such a table: an hour and a direction each.
use Prim.Native.Nat.{ℕ, zero, suc, ◌+◌, ◌*◌, ◌-◌, ◌/◌, ◌%◌, ◌≤◌, ◌<◌}
use mathlib.Core.List.{List, ◌++◌}
use mathlib.Core.Logic.{dite}
use mathlib.Core.Path.{◌≡◌, refl, ap, ◌∙◌}
use native.Mathlib.Decide.{ℕ_discrete}
use native.Mathlib.Nat.{zero-add}
use native.Mathlib.Numerals.{add-one}
use native.Mathlib.Omega.{arith}
use borrow.Rule.Slice.PartMut.{put_mid}
use lib.ListN.{length, get_or, take, drop, length-append, get_or-append}
use lib.Seq.{get_or-append-add}
use Rattle.exact.proofs.Lending.{lent_back}
use Rattle.limits.specs.Ranges.{day_hours, day_payments}
use Rattle.collecting.specs.Directions.{Direction, Upward, Downward, place_in, column_at, day_of}
use Rattle.collecting.proofs.Hours.{hours_length, hour_there}
use Rattle.paying.specs.Columns.{each, column}
use Rattle.paying.proofs.Columns.{each_same}
use Rattle.payout_rules.specs.PayOut.{areas_to}

place_small : (direction : Direction) → place_in direction ≤ 1
place_small Upward = omega arith
place_small Downward = omega arith

pub column_below : (h : ℕ) (direction : Direction) → h < day_hours → column_at h direction < day_payments
column_below h direction below = omega (arith, place_small direction)

-- every column is one
pub record HourOf (j : ℕ) : Type 0 where
  pub hour : ℕ
  pub direction : Direction
  pub below : hour < day_hours
  pub is : j ≡ column_at hour direction

pub hour_of : (j : ℕ) → j < day_payments → HourOf j
hour_of j below =
    dite (ℕ_discrete (j % 2) 0)
    (λ even. record { hour = j / 2; direction = Upward; below = omega arith; is = omega arith })
    (λ odd. record { hour = j / 2; direction = Downward; below = omega arith; is = omega arith })

module _ {A : Type 0} (numbers : ℕ → ℕ → Direction → A) where
  pub areas_more : (k : ℕ) → areas_to numbers (k + 1) ≡ areas_to numbers k ++ day_of (numbers k)
  unfolding areas_to
  areas_more k = rw (add-one k)

  pub areas_length : (n : ℕ) → length (areas_to numbers n) ≡ day_payments * n
  unfolding areas_to
  areas_length zero = refl
  areas_length (suc n) =
      length-append (areas_to numbers n) (day_of (numbers n)) ∙ omega (arith, areas_length n, hours_length (numbers n) 0 day_hours)

  -- the numbers of area k written into the part behind those of the areas before it
  pub areas_step : (k : ℕ) (before xs part : List A) → xs ≡ areas_to numbers k ++ drop (day_payments * k) before
      → part ≡ day_of (numbers k) ++ drop day_payments (take (length xs - day_payments * k) (drop (day_payments * k) xs))
      → put_mid (day_payments * k) (length xs - day_payments * k) xs part ≡ areas_to numbers (k + 1) ++ drop (day_payments * (k + 1)) before
  areas_step k before xs part stands came =
      let end : day_payments * k + day_payments ≡ day_payments * (k + 1) = omega arith in
      lent_back (areas_to numbers k) before (day_of (numbers k)) xs part (day_payments * k) day_payments (areas_length k) stands came
      ∙ rw (areas_more k, end)

  module _ (h : ℕ) (direction : Direction) (none : A) (below : h < day_hours) where
    pub day_there : (k : ℕ) → get_or (day_of (numbers k)) (column_at h direction) none ≡ numbers k h direction
    day_there k = hour_there (numbers k) 0 day_hours h direction none below ∙ ap (λ (i : ℕ). numbers k i direction) (zero-add h)

    pub area_there : (n k : ℕ) → k < n → get_or (areas_to numbers n) (day_payments * k + column_at h direction) none ≡ numbers k h direction
    unfolding areas_to
    area_there zero k less = absurd (omega arith)
    area_there (suc n) k less =
        let front = areas_to numbers n in
        let long = areas_length n in
        let inside = column_below h direction below in
        dite (ℕ_discrete k n)
        (λ e.
        let place : day_payments * k + column_at h direction ≡ length front + column_at h direction = omega arith in
        rw (place, e) (get_or-append-add front (day_of (numbers n)) (column_at h direction) none ∙ day_there n))
        (λ other. get_or-append front (day_of (numbers n)) none (day_payments * k + column_at h direction) (omega arith) ∙ area_there n k (omega arith))

    -- so the column of the first n areas has their numbers of that hour and direction
    pub column_of_areas : (n : ℕ) (rest : List A) → column none (areas_to numbers n ++ rest) n (column_at h direction) ≡ each (λ k. numbers k h direction) 0 n
    column_of_areas n rest =
        let inside = column_below h direction below in
        each_same (λ k. get_or (areas_to numbers n ++ rest) (day_payments * k + column_at h direction) none) (λ k. numbers k h direction) 0 n
        (λ k less.
        get_or-append (areas_to numbers n) rest none (day_payments * k + column_at h direction) (omega (arith, areas_length n))
        ∙ area_there n k (omega arith))

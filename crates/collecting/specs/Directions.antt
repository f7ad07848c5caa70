-- What an hour of an area comes to in each direction (docs/RULES.md, section 14): the amount that is collected from it, and whether it passes.
use Rattle.std.specs.Prelude.{ℕ, zero, suc, ◌+◌, ◌*◌, Bool, cond, ◌&&◌, List, [], ◌∷◌, eqb, ℤ, ◌+ℤ◌, get_or}
use Rattle.limits.specs.Ranges.{day_hours}
use Rattle.body.specs.Layout.{flag_of, hour_at}
use Rattle.surcharge.specs.declared.Terms.{Terms}
use Rattle.amounts.specs.Amounts.{upward_at, downward_from, on_peak_amount, off_peak_amount, downward_amount}

-- "For each hour and direction"
pub data Direction : Type 0 where
  Upward : Direction
  Downward : Direction

-- "upward is on-peak plus off-peak"
unfoldable pub amount_in : Terms → List ℕ → ℕ → Direction → ℤ
amount_in terms body h Upward = on_peak_amount terms body h +ℤ off_peak_amount terms body h
amount_in terms body h Downward = downward_amount terms body h

-- U and W
abbrev pub deficiency_in : List ℕ → ℕ → Direction → ℕ
deficiency_in body h Upward = upward_at body h
deficiency_in body h Downward = downward_from body (hour_at body h)

-- "The passing areas are those with flag 1 and a deficiency of exactly 0 in that direction"
abbrev pub passes : List ℕ → ℕ → Direction → Bool
passes body h direction = eqb (flag_of body) 1 && eqb (deficiency_in body h direction) 0

-- an area's basis of an hour where it passes; `basis` has one for each hour
unfoldable pub basis_in : List ℕ → (basis : List ℕ) → ℕ → Direction → ℕ
basis_in body basis h direction = cond (passes body h direction) (get_or basis h 0) 0

-- "upward before downward": n hours from hour h on
unfoldable pub hours_from : {A : Type 0} → (ℕ → Direction → A) → ℕ → ℕ → List A
hours_from numbers h zero = []
hours_from numbers h (suc n) = numbers h Upward ∷ numbers h Downward ∷ hours_from numbers (suc h) n

-- the place of a direction within its hour, and of an hour and a direction within a day
abbrev pub place_in : Direction → ℕ
place_in Upward = 0
place_in Downward = 1

abbrev pub column_at : ℕ → Direction → ℕ
column_at h direction = 2 * h + place_in direction

-- "by .. hour, upward before downward": a day of them
abbrev pub day_of : {A : Type 0} → (ℕ → Direction → A) → List A
day_of numbers = hours_from numbers 0 day_hours

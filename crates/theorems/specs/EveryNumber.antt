-- Demand 2, number by number: what stands in the statement that settlement under d leaves of a file that it settles.
use Rattle.std.specs.Prelude.{ℕ, ◌≤◌, ◌<◌, List, ◌≡◌, ℤ, pos, length, get_or}
use Rattle.limits.specs.Ranges.{day_hours}
use Rattle.body.specs.Layout.{coordinators_of}
use Rattle.contents.specs.File.{areas_of, body_at}
use Rattle.amounts.specs.Amounts.{on_peak_amount, off_peak_amount, downward_amount, surcharge_at, credit_at}
use Rattle.statement.specs.Block.{charges_at}
use Rattle.settlement.specs.Settlement.{numbers_needed, terms_by}
use Rattle.settlement.specs.Shown.{statement_left_by, on_peak_shown, off_peak_shown, downward_shown, surcharge_shown, credit_shown, charge_shown}

-- hour h of area k
pub record HourNumbers (d : ℕ → List ℕ → ℕ) (file : List ℕ) (left : List ℤ) (k h : ℕ) : Type 0 where
  pub on_peak : on_peak_shown file k h left ≡ on_peak_amount (terms_by d file k) (body_at file k) h
  pub off_peak : off_peak_shown file k h left ≡ off_peak_amount (terms_by d file k) (body_at file k) h
  pub downward : downward_shown file k h left ≡ downward_amount (terms_by d file k) (body_at file k) h
  pub surcharge : surcharge_shown file k h left ≡ surcharge_at (terms_by d file k) (body_at file k) h
  pub credit : credit_shown file k h left ≡ credit_at (terms_by d file k) (body_at file k) h
  -- the charge of coordinator i, from 0
  pub charge : (i : ℕ) → i < coordinators_of (body_at file k) → charge_shown file k h left i ≡ get_or (charges_at (terms_by d file k) (body_at file k) h) i (pos 0)

pub record EveryNumber (d : ℕ → List ℕ → ℕ) (file : List ℕ) (statement : List ℤ) : Type 0 where
  pub hours : (k h : ℕ) → k < areas_of file → h < day_hours → HourNumbers d file (statement_left_by d file statement) k h
  -- "Numbers past the needed ones stay"
  pub behind : (i : ℕ) → numbers_needed file ≤ i → get_or (statement_left_by d file statement) i (pos 0) ≡ get_or statement i (pos 0)
  pub as_long : length (statement_left_by d file statement) ≡ length statement

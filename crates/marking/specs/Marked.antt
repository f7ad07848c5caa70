-- "a day marked when any hour, peak or not, was of tier 2 or 3 and the flag was 1"
use Rattle.std.specs.Prelude.{ℕ, zero, suc, ◌≤◌, ◌<◌, Bool, false, cond, ◌&&◌, ◌||◌, List, [], ◌∷◌, ◌≡◌, eqb, leb}
use Rattle.limits.specs.Ranges.{day_hours}
use Rattle.body.specs.Layout.{flag_of}
use Rattle.contents.specs.File.{areas_of, number_at, body_at}
use Rattle.amounts.specs.Amounts.{tier_at}

-- the sentence: the flag is 1, and there is such an hour
pub record Marked (body : List ℕ) : Type 0 where
  pub flag : flag_of body ≡ 1
  pub hour : ℕ
  pub inside : hour < day_hours
  pub tier : 2 ≤ tier_at body hour

-- and the test: some hour of the first n is of tier 2 or 3
unfoldable pub failed_before : List ℕ → ℕ → Bool
failed_before body zero = false
failed_before body (suc n) = failed_before body n || leb 2 (tier_at body n)

unfoldable pub marked_in : List ℕ → Bool
marked_in body = eqb (flag_of body) 1 && failed_before body day_hours

-- the numbers of the marked areas, of m areas from area k on
unfoldable pub marked_from : List ℕ → ℕ → ℕ → List ℕ
marked_from file k zero = []
marked_from file k (suc m) = cond (marked_in (body_at file k)) (number_at file k ∷ marked_from file (suc k) m) (marked_from file (suc k) m)

-- those of a file, rising as its areas do
abbrev pub marked_areas : List ℕ → List ℕ
marked_areas file = marked_from file 0 (areas_of file)

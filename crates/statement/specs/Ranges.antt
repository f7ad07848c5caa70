-- What the writers of an hour ask: its demands are in range.
use Rattle.std.specs.Prelude.{ℕ, ◌+◌, ◌*◌, ◌≤◌, List, ◌≡◌, length}
use Rattle.exact.specs.Total.{total}
use Rattle.words.specs.Bytes.{words_from}
use Rattle.limits.specs.Ranges.{most_demand, most_coordinators}
use Rattle.body.specs.Layout.{kind_of, points_of, coordinators_of}

-- the demands of the hour that starts at word `at`
pub record DemandsRanged (body : List ℕ) (at : ℕ) : Type 0 where
  pub some : 1 ≤ coordinators_of body
  pub few : coordinators_of body ≤ most_coordinators
  pub room : 4 * (at + 8 + 24 * points_of body + coordinators_of body) ≤ length body
  pub sum : total (words_from body (at + 8 + 24 * points_of body) (coordinators_of body)) ≤ most_demand
  pub alone : (kind_of body ≡ 1 → ⊥) → coordinators_of body ≡ 1

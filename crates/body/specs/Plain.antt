-- A plain area: nothing of it can be refused when it is settled. Each of its hours is plain.
use Rattle.std.specs.Prelude.{ℕ, zero, suc, ◌≤◌, ◌<◌, Bool, true, ◌&&◌, List, ◌≡◌}
use Rattle.limits.specs.Ranges.{day_hours}
use Rattle.hour.specs.Plain.{plain_hour}
use Rattle.hour_glance.specs.Told.{AcceptedPlain}
use Rattle.body.specs.Layout.{hour_start, kind_of, points_of, coordinators_of}

module _ (body : List ℕ) (kind load count : ℕ) where
  -- the first n hours of a body of that kind, with so many load points and coordinators
  unfoldable pub plain_hours : ℕ → Bool
  plain_hours zero = true
  plain_hours (suc h) = plain_hours h && plain_hour body kind load count (hour_start load count h)

  -- hour n starts at word `at`, and each hour before it is plain, and its rule accepts it
  pub record Behind (n at : ℕ) : Type 0 where
    pub within : n ≤ day_hours
    pub here : at ≡ hour_start load count n
    pub each : (h : ℕ) → h < n → AcceptedPlain body kind load count (hour_start load count h)

abbrev pub plain_area : List ℕ → Bool
plain_area body = plain_hours body (kind_of body) (points_of body) (coordinators_of body) day_hours

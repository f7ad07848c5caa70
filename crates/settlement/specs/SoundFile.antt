-- What settlement asks of a file, with no limit of an edition in it: its contents and bodies lie within it, and every body is sound; and of the persistent
-- days that it is settled with: a d for each area, in its range.
use Rattle.std.specs.Prelude.{ℕ, ◌+◌, ◌*◌, ◌/◌, ◌≤◌, ◌<◌, List, length}
use Rattle.limits.specs.Ranges.{most_days, proved_areas, proved_points}
use Rattle.body.specs.Kept.{Sound}
use Rattle.contents.specs.File.{areas_of, start_at, size_at, body_at}
use Rattle.settlement.specs.Settlement.{listed}

pub record SoundFile (file : List ℕ) : Type 0 where
  pub few : areas_of file ≤ proved_areas
  pub room : 4 + 3 * areas_of file ≤ length file / 4
  pub inside : (k : ℕ) → k < areas_of file → 4 * start_at file k + 4 * size_at file k ≤ length file
  pub body : (k : ℕ) → k < areas_of file → Sound proved_points (body_at file k)

-- each area of the file has a d in its range
pub record DaysKept (days : ℕ → ℕ) (file : List ℕ) : Type 0 where
  pub each : (k : ℕ) → k < areas_of file → days k ≤ most_days

-- a sound file, with a list of the d of its areas
pub record Settleable (days file : List ℕ) : Type 0 where
  pub sound : SoundFile file
  pub kept : DaysKept (listed days file) file

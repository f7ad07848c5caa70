-- What is known of a file, a basis and the room for the payments, once nothing of them is refused.
use Rattle.std.specs.Prelude.{ℕ, ◌*◌, ◌≤◌, ◌≡◌, List, length}
use Rattle.limits.specs.Ranges.{day_hours}
use Rattle.limits.specs.Editions.{most_areas}
use Rattle.contents.specs.File.{areas_of}
use Rattle.settlement.specs.SoundFile.{SoundFile}
use Rattle.payout_rules.specs.PayOut.{payments_needed}

pub record Payable (file basis : List ℕ) (room : ℕ) : Type 0 where
  pub sound : SoundFile file
  pub few : areas_of file ≤ most_areas
  pub counted : length basis ≡ day_hours * areas_of file
  pub room_enough : payments_needed file ≤ room

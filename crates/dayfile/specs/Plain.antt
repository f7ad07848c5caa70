-- Which areas of a day file are plain.
use Rattle.std.specs.Prelude.{ℕ, ◌<◌, Bool, false, List, ◌≡◌, get_or}
use Rattle.body.specs.Plain.{plain_area}
use Rattle.contents.specs.File.{body_at}

-- a list that tells it of the first n areas
pub record PlainTold (plain : List Bool) (file : List ℕ) (n : ℕ) : Type 0 where
  pub each : (k : ℕ) → k < n → get_or plain k false ≡ plain_area (body_at file k)

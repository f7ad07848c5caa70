-- What a glance tells of an hour.
use Rattle.std.specs.Prelude.{◌≡◌, ℕ, true, List}
use Rattle.verdict.specs.Verdict.{number_of}
use Rattle.hour.specs.Check.{hour_rule}
use Rattle.hour.specs.Plain.{plain_hour}

-- an hour that its rule accepts, wherever its body starts, and that is plain
pub record AcceptedPlain (body : List ℕ) (kind load count at : ℕ) : Type 0 where
  pub accepted : (start : ℕ) → number_of (hour_rule start body load count at) ≡ 0
  pub plain : plain_hour body kind load count at ≡ true

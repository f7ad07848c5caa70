-- What is known of an hour's demands where the hour stands.
use Rattle.std.proofs.Common.{ℕ, List}
use Rattle.surcharge.specs.declared.Day.{Day}
use Rattle.surcharge.specs.declared.Terms.{Terms}
use Rattle.amounts.specs.Ranges.{AtHour}
use Rattle.statement.specs.Ranges.{DemandsRanged}
use Rattle.statement.proofs.Demands.{demands_ranged}

pub hour_demands : {terms : Terms} {day : Day} {body : List ℕ} {h at : ℕ} → AtHour terms day body h at → DemandsRanged body at
hour_demands {body = body} {h = h} hour = rw hour.here (demands_ranged body hour.sound h hour.below)

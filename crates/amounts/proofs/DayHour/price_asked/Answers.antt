use Rattle.std.proofs.Common.{arith}
use Rattle.std.proofs.lemmas.Grind.{common_steps}
use Rattle.surcharge.specs.Surcharge.{day_of}
use Rattle.amounts.specs.Amounts.{tier_at, day_facts, hour_facts, price_needed}
use Rattle.amounts.proofs.DayHour.price_asked.Goals as goal

pub returns : goal.returns
unfolding price_needed tier_at hour_facts day_facts day_of
returns c = grind (arith, common_steps)

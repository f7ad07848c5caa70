use Rattle.std.proofs.Common.{arith}
use Rattle.std.proofs.lemmas.Grind.{common_steps}
use Rattle.surcharge.specs.Surcharge.{day_of}
use Rattle.amounts.specs.Amounts.{tier_at, day_facts, hour_facts, price_needed}
use Rattle.explaining.specs.Explaining.{shortage_at}
use Rattle.explaining.proofs.hour_shortage.Goals as goal

pub returns : goal.returns
unfolding shortage_at price_needed hour_facts tier_at day_facts day_of
returns c = grind (arith, common_steps)

use Rattle.std.proofs.Common.{arith}
use Rattle.amounts.proofs.Hours.{hour_there, pairs_there}
use Rattle.amounts.proofs.DayHour.price.Goals as goal

pub overflow_add-self : goal.overflow_add-self
overflow_add-self c = omega (arith, (hour_there c.args.self.stands).room)

pub hour_price-requires : goal.hour_price-requires
hour_price-requires c = pairs_there c.args.self.stands c.word-load.result c.word-load.ensures

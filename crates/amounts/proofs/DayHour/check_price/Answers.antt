use Rattle.std.proofs.Common.{arith}
use Rattle.amounts.proofs.Hours.{hour_there}
use Rattle.amounts.proofs.DayHour.check_price.Goals as goal

pub overflow_add-self : goal.overflow_add-self
overflow_add-self c = omega (arith, (hour_there c.args.self.stands).room)

pub overflow_add-start : goal.overflow_add-start
overflow_add-start c = omega (arith, (hour_there c.args.self.stands).room)

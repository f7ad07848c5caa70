use Rattle.std.proofs.Common.{◌-◌, arith}
use Rattle.calendar.proofs.DayNumber.{months_most, days_most}
use Rattle.calendar.proofs.days_before.Goals as goal

pub overflow_add-days : goal.overflow_add-days
overflow_add-days c =
    let l = c.loop-before in
    omega (arith, months_most c.args.year (l.before - 1), days_most c.args.year l.before)

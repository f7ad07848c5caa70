use Rattle.calendar.proofs.DayNumber.{real_parts}
use Rattle.calendar.proofs.day_number.Goals as goal

pub days_before-requires : goal.days_before-requires
days_before-requires c = let r = real_parts c.args.date c.requires in (r.first_month, r.last_month)

use Rattle.calendar.specs.DayNumber.{day_number}
use Rattle.record_check.proofs.last_number.Goals as goal

pub returns-then-last-eq0 : goal.returns-then-last-eq0
unfolding day_number
returns-then-last-eq0 c = rw c.if-last-eq0.true

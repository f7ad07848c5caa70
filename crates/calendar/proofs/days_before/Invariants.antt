use Rattle.std.proofs.Common.{◌≡◌, ◌-◌}
use Rattle.calendar.specs.DayNumber.{days_of_months}
use Rattle.calendar.proofs.days_before.Given as goal

abbrev pub invariant-loop-before : goal.invariant-loop-before
invariant-loop-before l = l.days ≡ days_of_months l.year (l.before - 1)

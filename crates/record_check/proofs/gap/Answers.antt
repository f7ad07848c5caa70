use Rattle.std.proofs.Common.{arith}
use native.Mathlib.Nat.{le_of_lt}
use Rattle.calendar.proofs.DayNumber.{not_falling}
use Rattle.record_check.proofs.Left.{record_before}
use Rattle.record_check.proofs.gap.Goals as goal

pub last_number-before-requires : goal.last_number-before-requires
last_number-before-requires c = (record_before c.args.given c.args.date c.requires.1).left.last.real

pub overflow_sub-result : goal.overflow_sub-result
overflow_sub-result c =
    let s = c.args in
    let after = (record_before s.given s.date c.requires.1).after in
    omega (arith, c.last_number-before.ensures, c.day_number-day.ensures, not_falling s.given.last s.date (le_of_lt after))

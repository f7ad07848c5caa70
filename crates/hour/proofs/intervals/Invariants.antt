use Rattle.std.proofs.Common.{◌≡◌, ◌-◌}
use Rattle.verdict.specs.First.{scan}
use Rattle.hour.specs.Check.{interval_rule_at, intervals_rule}
use Rattle.hour.proofs.intervals.Given as goal

abbrev pub invariant-loop-i : goal.invariant-loop-i
invariant-loop-i l = intervals_rule l.start l.body l.from l.count ≡ scan (interval_rule_at l.start l.body l.from) l.i (l.count - l.i)

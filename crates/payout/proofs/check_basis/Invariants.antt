use Rattle.std.proofs.Common.{◌≡◌, ◌-◌}
use Rattle.limits.specs.Ranges.{day_hours}
use Rattle.verdict.specs.First.{scan}
use Rattle.payout_rules.specs.PayOut.{hour_basis_rule, basis_rule}
use Rattle.payout.proofs.check_basis.Given as goal

abbrev pub invariant-loop-h : goal.invariant-loop-h
invariant-loop-h l = basis_rule l.basis l.n ≡ scan (hour_basis_rule l.basis l.n) l.h (day_hours - l.h)

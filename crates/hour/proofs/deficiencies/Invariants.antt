use Rattle.std.proofs.Common.{◌≡◌, ◌-◌}
use Rattle.verdict.specs.First.{scan}
use Rattle.hour.specs.Check.{deficiency_rule_at, deficiencies_rule}
use Rattle.hour.proofs.deficiencies.Given as goal

abbrev pub invariant-loop-i : goal.invariant-loop-i
invariant-loop-i l = deficiencies_rule l.start l.body l.at ≡ scan (deficiency_rule_at l.start l.body l.at) l.i (6 - l.i)

use Rattle.std.proofs.Common.{◌≡◌, ◌-◌}
use Rattle.verdict.specs.First.{scan}
use Rattle.body.specs.Layout.{coordinator_before}
use Rattle.body.specs.Check.{coordinator_rule_at, coordinators_rule}
use Rattle.body.proofs.coordinators.Given as goal

abbrev pub invariant-loop-i : goal.invariant-loop-i
invariant-loop-i l = record {
  last : l.before ≡ coordinator_before l.body l.i;
  rest : coordinators_rule l.start l.body l.count ≡ scan (coordinator_rule_at l.start l.body) l.i (l.count - l.i);
}

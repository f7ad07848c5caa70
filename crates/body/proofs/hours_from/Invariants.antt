use Rattle.std.proofs.Common.{◌≡◌, ◌-◌, ◌≤◌}
use Rattle.limits.specs.Ranges.{day_hours}
use Rattle.verdict.specs.First.{scan}
use Rattle.body.specs.Layout.{hour_start}
use Rattle.body.specs.Check.{hour_rule_at, hours_rule}
use Rattle.body.specs.Plain.{plain_hours}
use Rattle.body.proofs.hours_from.Given as goal

abbrev pub invariant-loop-h : goal.invariant-loop-h
invariant-loop-h l = record {
  within : l.h ≤ day_hours;
  here : l.at ≡ hour_start l.load l.count l.h;
  told : l.plain ≡ plain_hours l.body l.kind l.load l.count l.h;
  rest : hours_rule l.start l.body l.load l.count ≡ scan (hour_rule_at l.start l.body l.load l.count) l.h (day_hours - l.h);
}

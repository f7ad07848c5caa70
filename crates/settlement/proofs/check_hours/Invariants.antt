use Rattle.std.proofs.Common.{◌≡◌, ◌-◌}
use Rattle.limits.specs.Ranges.{day_hours}
use Rattle.verdict.specs.First.{scan}
use Rattle.body.specs.Layout.{hour_at}
use Rattle.settlement.specs.Settlement.{hour_refusal, hours_refusal}
use Rattle.settlement.proofs.check_hours.Given as goal

abbrev pub invariant-loop-h : goal.invariant-loop-h
invariant-loop-h l = record {
  start : l.at ≡ hour_at l.body l.h;
  rest : hours_refusal l.terms l.start l.body ≡ scan (hour_refusal l.terms l.start l.body) l.h (day_hours - l.h);
}

use Rattle.std.proofs.Common.{◌≡◌, ◌-◌, ◌*◌}
use Rattle.limits.specs.Ranges.{day_hours}
use Rattle.exact.proofs.Filling.{Filling}
use Rattle.body.specs.Layout.{hour_at}
use Rattle.collecting.specs.Directions.{amount_in, hours_from, day_of}
use Rattle.collecting.proofs.collect.Given as goal

abbrev pub invariant-loop-h : goal.invariant-loop-h
invariant-loop-h l = record {
  start : l.at ≡ hour_at l.body l.h;
  filling : Filling (day_of (amount_in l.terms l.body)) l.initial.collected l.collected (hours_from (amount_in l.terms l.body) l.h (day_hours - l.h)) (2 * l.h);
}

use Rattle.std.proofs.Common.{◌≡◌, ◌-◌, ◌*◌}
use Rattle.limits.specs.Ranges.{day_hours}
use Rattle.exact.proofs.Filling.{Filling}
use Rattle.body.specs.Layout.{hour_at}
use Rattle.collecting.specs.Directions.{basis_in, hours_from, day_of}
use Rattle.collecting.proofs.count_basis.Given as goal

abbrev pub invariant-loop-h : goal.invariant-loop-h
invariant-loop-h l = record {
  start : l.at ≡ hour_at l.body l.h;
  filling : Filling (day_of (basis_in l.body l.basis)) l.initial.counted l.counted (hours_from (basis_in l.body l.basis) l.h (day_hours - l.h)) (2 * l.h);
}

use Rattle.std.proofs.Common.{◌≡◌, ◌*◌, ◌++◌, drop}
use Rattle.encoding.specs.Encoding.{encoded}
use Rattle.body.specs.Layout.{hour_at, coordinators_of}
use Rattle.statement.specs.Block.{hour_numbers, hours_block}
use Rattle.statement.proofs.write_area.Given as goal

abbrev pub invariant-loop-h : goal.invariant-loop-h
invariant-loop-h l = record {
  start : l.at ≡ hour_at l.body l.h;
  to : l.to ≡ 8 * (l.h * hour_numbers (coordinators_of l.body));
  written : l.statement ≡ encoded (hours_block l.terms l.body l.h) ++ drop l.to l.initial.statement;
}

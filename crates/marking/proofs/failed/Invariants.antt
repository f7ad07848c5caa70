use Rattle.std.proofs.Common.{◌≡◌, false}
use Rattle.body.specs.Layout.{hour_at}
use Rattle.marking.specs.Marked.{failed_before}
use Rattle.marking.proofs.failed.Given as goal

abbrev pub invariant-loop-h : goal.invariant-loop-h
invariant-loop-h l = record {
  start : l.at ≡ hour_at l.body l.h;
  none : failed_before l.body l.h ≡ false;
}

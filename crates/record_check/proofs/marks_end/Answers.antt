use Rattle.std.proofs.Common.{◌≡◌, ◌+◌, ◌∙◌, min, arith}
use Rattle.limits.specs.Ranges.{recorded_days}
use Rattle.marks.proofs.Bits.{aged_one}
use Rattle.record_check.proofs.marks_end.Goals as goal

pub returns : goal.returns
returns c =
    let day = c.args.day in
    let e : min recorded_days (day + 1) ≡ day + 1 = omega (arith, c.if-day.false) in
    rw e (c.age.ensures ∙ aged_one (day + 1) (omega (arith, c.if-day.false)))

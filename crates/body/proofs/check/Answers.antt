use Rattle.std.proofs.Common.{sym, ap, ◌∙◌, arith}
use Rattle.verdict.specs.Verdict.{number_of}
use Rattle.verdict.specs.First.{◌or_else◌}
use Rattle.verdict.proofs.First.{handed_on_in}
use Rattle.body.specs.Check.{body_rule}
use Rattle.body.proofs.Rules.{front_points, front_size}
use Rattle.body.proofs.check.Goals as goal

pub returns-in_err-front-clause-answer_value : goal.returns-in_err-front-clause-answer_value
unfolding body_rule ◌or_else◌
returns-in_err-front-clause-answer_value c = handed_on_in _ _ _ c.from_residual.ensures.1 (rw (← c.in_err-front.ensures))

pub coordinators-requires : goal.coordinators-requires
coordinators-requires c =
    let size = front_size _ _ _ _ (ap number_of (sym c.in_ok-front.ensures)) in
    omega arith

pub returns-in_err-coordinators-clause-answer_value : goal.returns-in_err-coordinators-clause-answer_value
unfolding body_rule ◌or_else◌
returns-in_err-coordinators-clause-answer_value c =
    handed_on_in _ _ _ c.from_residual-in_err-coordinators.ensures.1
    (rw (← c.in_ok-front.ensures, ← c.word-k.ensures, ← c.in_err-coordinators.ensures))

pub glance_hours-reached-requires : goal.glance_hours-reached-requires
glance_hours-reached-requires c =
    let size = front_size _ _ _ _ (ap number_of (sym c.in_ok-front.ensures)) in
    omega arith

pub hours_from-requires-clause-sizes : goal.hours_from-requires-clause-sizes
hours_from-requires-clause-sizes c =
    let front = ap number_of (sym c.in_ok-front.ensures) in
    let size = front_size _ _ _ _ front in
    let points = front_points _ _ _ _ front in
    omega (arith, c.word-load.ensures)

pub returns-clause-answer_value : goal.returns-clause-answer_value
unfolding body_rule ◌or_else◌
returns-clause-answer_value c =
    c.hours_from.ensures.answer_value
    ∙ rw (← c.in_ok-front.ensures, ← c.word-k.ensures, ← c.in_ok-coordinators.ensures, c.word-load.ensures)

use Rattle.std.proofs.Common.{sym}
use native.Mathlib.Nat.{sub-zero}
use Rattle.verdict.proofs.First.{handed_on, loop_next, loop_stop, loop_done}
use Rattle.settlement.specs.Settlement.{area_refusal, areas_refusal}
use Rattle.settlement.proofs.Accepted.{terms_there}
use Rattle.settlement.proofs.check_areas.Goals as goal

pub loop-k-init : goal.loop-k-init
unfolding areas_refusal
loop-k-init c = rw (sub-zero, c.requires.settleable.1.0)

pub returns-in_err-check_area : goal.returns-in_err-check_area
unfolding area_refusal
returns-in_err-check_area c =
    let body = c.body_at-body.ensures.0 in
    let terms = terms_there c.args.days.now c.args.file.now _ _ _ _ c.terms_of-terms.ensures c.requires.settleable.1.1 body in
    let is = rw (terms, c.word-start.ensures, body) at c.in_err-check_area.ensures in
    handed_on _ _ _ c.from_residual.ensures.1 (loop_stop _ _ _ _ _ c.loop-k.invariant c.loop-k-test.true (sym is))

pub loop-k-preserved : goal.loop-k-preserved
unfolding area_refusal
loop-k-preserved c =
    let body = c.body_at-body.ensures.0 in
    let terms = terms_there c.args.days.now c.args.file.now _ _ _ _ c.terms_of-terms.ensures c.requires.settleable.1.1 body in
    let is = rw (terms, c.word-start.ensures, body) at c.in_ok-check_area.ensures in
    loop_next _ _ _ _ _ c.loop-k.invariant c.loop-k-test.true (sym is)

pub returns : goal.returns
returns c = loop_done _ _ _ _ c.loop-k.invariant c.loop-k-test.false

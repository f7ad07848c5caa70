use Rattle.std.proofs.Common.{sym}
use native.Mathlib.Nat.{sub-zero}
use Rattle.verdict.proofs.First.{handed_on, loop_next, loop_stop, loop_done}
use Rattle.hour.specs.Check.{interval_rule_at, intervals_rule}
use Rattle.hour.proofs.intervals.Goals as goal

pub loop-i-init : goal.loop-i-init
unfolding intervals_rule
loop-i-init c = simp sub-zero

pub returns-in_err-pair : goal.returns-in_err-pair
unfolding interval_rule_at
returns-in_err-pair c =
    let is = rw (c.word-quantity.ensures, c.word-price.ensures) at c.in_err-pair.ensures in
    handed_on _ _ _ c.from_residual.ensures.1 (loop_stop _ _ _ _ _ c.loop-i.invariant c.loop-i-test.true (sym is))

pub loop-i-preserved : goal.loop-i-preserved
unfolding interval_rule_at
loop-i-preserved c =
    let is = rw (c.word-quantity.ensures, c.word-price.ensures) at c.in_ok-pair.ensures in
    loop_next _ _ _ _ _ c.loop-i.invariant c.loop-i-test.true (sym is)

pub returns : goal.returns
returns c = loop_done _ _ _ _ c.loop-i.invariant c.loop-i-test.false

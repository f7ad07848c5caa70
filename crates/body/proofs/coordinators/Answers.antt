use Rattle.std.proofs.Common.{refl, sym, add-one}
use native.Mathlib.Nat.{sub-zero}
use Rattle.verdict.proofs.First.{handed_on, loop_next, loop_stop, loop_done}
use Rattle.body.specs.Layout.{coordinator_before}
use Rattle.body.specs.Check.{coordinator_rule_at, coordinators_rule}
use Rattle.body.proofs.coordinators.Goals as goal

pub loop-i-init : goal.loop-i-init
unfolding coordinator_before coordinators_rule
loop-i-init c = record { last = refl; rest = simp sub-zero }

pub returns-in_err-coordinator : goal.returns-in_err-coordinator
unfolding coordinator_rule_at
returns-in_err-coordinator c =
    let is = rw (c.loop-i.invariant.last, c.word-number.ensures) at c.in_err-coordinator.ensures in
    handed_on _ _ _ c.from_residual.ensures.1 (loop_stop _ _ _ _ _ c.loop-i.invariant.rest c.loop-i-test.true (sym is))

pub loop-i-preserved : goal.loop-i-preserved
unfolding coordinator_before coordinator_rule_at
loop-i-preserved c =
    let is = rw (c.loop-i.invariant.last, c.word-number.ensures) at c.in_ok-coordinator.ensures in
    record {
      last = rw add-one c.word-number.ensures;
      rest = loop_next _ _ _ _ _ c.loop-i.invariant.rest c.loop-i-test.true (sym is);
    }

pub returns : goal.returns
returns c = loop_done _ _ _ _ c.loop-i.invariant.rest c.loop-i-test.false

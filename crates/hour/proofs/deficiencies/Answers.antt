use Rattle.std.proofs.Common.{refl, sym, ◌∙◌}
use Rattle.verdict.proofs.First.{handed_on, loop_next, loop_stop, loop_done}
use Rattle.hour.specs.Check.{deficiency_rule_at, deficiencies_rule}
use Rattle.hour.proofs.deficiencies.Goals as goal

pub loop-i-init : goal.loop-i-init
unfolding deficiencies_rule
loop-i-init c = refl

pub returns-in_err-range : goal.returns-in_err-range
unfolding deficiency_rule_at
returns-in_err-range c =
    handed_on _ _ _ c.from_residual.ensures.1
    (loop_stop _ _ _ _ _ c.loop-i.invariant c.loop-i-test.true (sym (c.in_err-range.ensures ∙ rw c.word.ensures)))

pub loop-i-preserved : goal.loop-i-preserved
unfolding deficiency_rule_at
loop-i-preserved c = loop_next _ _ _ _ _ c.loop-i.invariant c.loop-i-test.true (sym (c.in_ok-range.ensures ∙ rw c.word.ensures))

pub returns : goal.returns
returns c = loop_done _ _ _ _ c.loop-i.invariant c.loop-i-test.false

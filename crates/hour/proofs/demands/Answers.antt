use Rattle.std.proofs.Common.{◌+◌, sym, ap, ◌∙◌, ap₂, arith}
use native.Mathlib.Nat.{sub-zero}
use Rattle.verdict.specs.Verdict.{number_of}
use Rattle.verdict.proofs.First.{handed_on, loop_next, loop_stop, loop_done}
use Rattle.words.proofs.Totals.{total_more, total_none}
use Rattle.hour.specs.Check.{demand_rule_at, demands_rule}
use Rattle.hour.proofs.Rules.{demand_kept}
use Rattle.hour.proofs.demands.Goals as goal

pub loop-i-init : goal.loop-i-init
unfolding demands_rule
loop-i-init c = record { added = sym (total_none _ _); within = omega arith; rest = simp sub-zero }

pub returns-in_err-demand : goal.returns-in_err-demand
unfolding demand_rule_at
returns-in_err-demand c =
    let is = rw (c.loop-i.invariant.added, c.word-next.ensures) at c.in_err-demand.ensures in
    handed_on _ _ _ c.from_residual.ensures.1 (loop_stop _ _ _ _ _ c.loop-i.invariant.rest c.loop-i-test.true (sym is))

pub loop-i-preserved : goal.loop-i-preserved
unfolding demand_rule_at
loop-i-preserved c =
    let l = c.loop-i in
    let kept = demand_kept _ _ _ (ap number_of (sym c.in_ok-demand.ensures)) in
    let is = rw (l.invariant.added, c.word-next.ensures) at c.in_ok-demand.ensures in
    record {
      added = ap₂ ◌+◌ l.invariant.added c.word-next.ensures ∙ sym (total_more _ _ _);
      within = kept.1;
      rest = loop_next _ _ _ _ _ l.invariant.rest c.loop-i-test.true (sym is);
    }

pub returns : goal.returns
returns c = loop_done _ _ _ _ c.loop-i.invariant.rest c.loop-i-test.false

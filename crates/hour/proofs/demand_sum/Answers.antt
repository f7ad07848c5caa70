use Rattle.std.proofs.Common.{◌+◌, sym, ◌∙◌, ap₂, arith}
use Rattle.words.proofs.Totals.{total_more, total_none}
use Rattle.hour.proofs.demand_sum.Goals as goal

pub loop-i-init : goal.loop-i-init
loop-i-init c = record { added = sym (total_none _ _); within = omega arith }

pub loop-i-preserved : goal.loop-i-preserved
loop-i-preserved c = record {
  added = ap₂ ◌+◌ c.loop-i.invariant.added c.word.ensures ∙ sym (total_more _ _ _);
  within = omega arith;
}

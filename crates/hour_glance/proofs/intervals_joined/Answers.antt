use Rattle.std.proofs.Common.{arith}
use Rattle.hour_glance.proofs.JoinedWords.{joined_none_yet, joined_more}
use Rattle.hour_glance.proofs.intervals_joined.Goals as goal

pub loop-i-init : goal.loop-i-init
loop-i-init c = joined_none_yet _ _

pub loop-i-preserved : goal.loop-i-preserved
loop-i-preserved c =
    joined_more _ _ _ _ _ _ _ _ c.loop-i.invariant c.word-quantity.ensures c.word-price.ensures (omega arith)
    c.wrapping_add_u32-prices.ensures.value

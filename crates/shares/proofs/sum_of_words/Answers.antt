use Rattle.std.proofs.Common.{arith}
use Rattle.words.proofs.Words.{words_count}
use Rattle.shares.proofs.Running.{word_demand, running_within, running_step, running_end}
use Rattle.shares.proofs.sum_of_words.Goals as goal

pub overflow_add-sum : goal.overflow_add-sum
overflow_add-sum c = omega (arith, running_within c.loop-i.invariant (word_demand _ _ _ c.loop-i-test.true c.word-sum.ensures))

pub loop-i-preserved : goal.loop-i-preserved
loop-i-preserved c = running_step c.loop-i.invariant (word_demand _ _ _ c.loop-i-test.true c.word-sum.ensures)

pub returns : goal.returns
returns c = running_end c.loop-i.invariant (words_count _ _ _) c.loop-i-test.false

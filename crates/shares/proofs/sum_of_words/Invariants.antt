use Rattle.words.specs.Bytes.{words_from}
use Rattle.shares.proofs.Running.{Running}
use Rattle.shares.proofs.sum_of_words.Given as goal

abbrev pub invariant-loop-i : goal.invariant-loop-i
invariant-loop-i l = Running (words_from l.bytes l.from l.count) l.sum l.i

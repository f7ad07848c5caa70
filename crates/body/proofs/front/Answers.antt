use Rattle.std.proofs.Common.{◌∙◌}
use Rattle.verdict.specs.First.{◌or_else◌}
use Rattle.verdict.proofs.First.{handed_on}
use Rattle.body.specs.Check.{front_rule}
use Rattle.body.proofs.front.Goals as goal

pub returns-in_err-head : goal.returns-in_err-head
unfolding front_rule ◌or_else◌
returns-in_err-head c = handed_on _ _ _ c.from_residual.ensures.1 (rw (← c.in_err-head.ensures))

pub returns : goal.returns
unfolding front_rule ◌or_else◌
returns c =
    c.count.ensures
    ∙ rw (← c.in_ok-head.ensures, c.word-k.ensures, c.word-load.ensures, c.most_of_kind-most.ensures, c.word.ensures)

use Rattle.std.proofs.Common.{ap, ◌∙◌, rules, arith}
use Rattle.limits.specs.Editions.{limits_of}
use Rattle.limits.proofs.Editions.{proved}
use Rattle.verdict.proofs.Tests.{tests}
use Rattle.dayfile.specs.Check.{check_of, check_within}
use Rattle.dayfile.proofs.checked.Goals as goal

pub returns-then-file-lt16-clause-answer_value : goal.returns-then-file-lt16-clause-answer_value
unfolding check_of check_within
returns-then-file-lt16-clause-answer_value c = search (tests, rules)

pub check_within-requires : goal.check_within-requires
check_within-requires c = (rw (c.limits_of.ensures) (proved _), omega arith)

pub returns-clause-answer_value : goal.returns-clause-answer_value
unfolding check_of
returns-clause-answer_value c =
    let f = c.args.file.now in
    c.check_within.ensures.answer_value ∙ ap (λ l. check_within l f) (c.limits_of.ensures ∙ ap limits_of c.word.ensures)

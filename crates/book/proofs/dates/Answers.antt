-- Word 1 of a file that is not its entry's date is the answer.
use Rattle.std.proofs.Common.{arith}
use Rattle.std.proofs.lemmas.Bool.Decides.{nat_tests}
use Rattle.verdict.proofs.First.{in_order}
use Rattle.book.specs.Check.{date_rule_at}
use Rattle.book.proofs.dates.Goals as goal

pub returns-then-word-entry : goal.returns-then-word-entry
unfolding date_rule_at
returns-then-word-entry c = grind (arith, in_order, nat_tests)

-- The dates so far are accepted.
use Rattle.std.proofs.Common.{◌≡◌, ◌-◌}
use Rattle.verdict.specs.First.{scan}
use Rattle.book.specs.Check.{date_rule_at}
use Rattle.book.proofs.dates.Given as goal

abbrev pub invariant-loop-k : goal.invariant-loop-k
invariant-loop-k l = scan (date_rule_at l.book) 0 l.n ≡ scan (date_rule_at l.book) l.k (l.n - l.k)

-- The entries so far are accepted, and the next file is due behind theirs.
use Rattle.std.proofs.Common.{◌≡◌, ◌≤◌, ◌/◌, ◌-◌, length}
use Rattle.verdict.specs.First.{scan}
use Rattle.book.specs.Read.{date_before, due_at}
use Rattle.book.specs.Check.{entry_rule_at}
use Rattle.book.proofs.contents.Given as goal

abbrev pub invariant-loop-k : goal.invariant-loop-k
invariant-loop-k l =
    (l.before ≡ date_before l.book l.k) × (l.due ≡ due_at l.book l.k) × (l.due ≤ length l.book / 4)
    × (scan (entry_rule_at l.book) 0 l.n ≡ scan (entry_rule_at l.book) l.k (l.n - l.k))

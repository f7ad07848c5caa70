use Rattle.std.proofs.Common.{◌≡◌, ◌-◌}
use Rattle.verdict.specs.First.{scan}
use Rattle.contents.specs.File.{number_before, due_at}
use Rattle.dayfile.specs.Check.{entry_rule_at, contents_rule}
use Rattle.dayfile.proofs.contents.Given as goal

abbrev pub invariant-loop-k : goal.invariant-loop-k
invariant-loop-k l = record {
  last : l.before ≡ number_before l.file l.k;
  next : l.due ≡ due_at l.file l.n l.k;
  rest : contents_rule l.most l.file l.n ≡ scan (entry_rule_at l.most l.file l.n) l.k (l.n - l.k);
}

use Rattle.std.proofs.Common.{◌≡◌, ◌-◌}
use Rattle.words.specs.Word.{word_at}
use Rattle.dayfile.specs.Lookup.{part_from}
use Rattle.dayfile.proofs.find.Given as goal

abbrev pub invariant-loop-k : goal.invariant-loop-k
invariant-loop-k l = record {
  count : l.n ≡ word_at l.file 2;
  rest : part_from l.file l.area 0 (word_at l.file 2) ≡ part_from l.file l.area l.k (l.n - l.k);
}

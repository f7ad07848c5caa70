-- A book that the check accepts has the words of its head.
use Rattle.std.proofs.Common.{ap, sym, arith}
use Rattle.verdict.specs.Verdict.{number_of}
use Rattle.book.proofs.Kept.{sound_book}
use Rattle.month.proofs.admit.Goals as goal

pub word-requires : goal.word-requires
word-requires c = omega (arith, (sound_book _ (ap number_of (sym c.in_ok-check.ensures))).whole)

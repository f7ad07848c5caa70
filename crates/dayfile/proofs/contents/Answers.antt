use Rattle.std.proofs.Common.{refl, sym, add-one}
use native.Mathlib.Nat.{sub-zero}
use Rattle.verdict.proofs.First.{handed_on, loop_next, loop_stop, loop_done}
use Rattle.contents.specs.File.{number_before, due_at}
use Rattle.dayfile.specs.Check.{entry_rule_at, contents_rule}
use Rattle.dayfile.proofs.contents.Goals as goal

pub loop-k-init : goal.loop-k-init
unfolding number_before due_at contents_rule
loop-k-init c = record { last = refl; next = refl; rest = simp sub-zero }

pub returns-in_err-entry : goal.returns-in_err-entry
unfolding entry_rule_at
returns-in_err-entry c =
    let l = c.loop-k.invariant in
    let is = rw (l.last, l.next, c.word-number.ensures, c.word-start.ensures, c.word-words.ensures) at c.in_err-entry.ensures in
    handed_on _ _ _ c.from_residual.ensures.1 (loop_stop _ _ _ _ _ l.rest c.loop-k-test.true (sym is))

pub loop-k-preserved : goal.loop-k-preserved
unfolding number_before due_at entry_rule_at
loop-k-preserved c =
    let l = c.loop-k.invariant in
    let is = rw (l.last, l.next, c.word-number.ensures, c.word-start.ensures, c.word-words.ensures) at c.in_ok-entry.ensures in
    record {
      last = rw add-one c.word-number.ensures;
      next = rw (add-one, c.word-start.ensures, c.word-words.ensures);
      rest = loop_next _ _ _ _ _ l.rest c.loop-k-test.true (sym is);
    }

pub returns : goal.returns
returns c = loop_done _ _ _ _ c.loop-k.invariant.rest c.loop-k-test.false

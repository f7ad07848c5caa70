-- An entry that is refused is the answer, and each that is accepted says where the next file is due.
use Rattle.std.proofs.Common.{◌≡◌, ◌∙◌, ℕ, ◌+◌, ◌*◌, List, refl, ap, sym, arith, add-one}
use native.Mathlib.Nat.{sub-zero}
use Rattle.verdict.specs.Verdict.{number_of}
use Rattle.verdict.proofs.First.{in_order}
use Rattle.book.specs.Read.{room_words, date_at, start_at, size_at, date_before, due_at}
use Rattle.book.specs.Check.{entry_rule, entry_rule_at}
use Rattle.book.proofs.Places.{due_first, due_suc}
use Rattle.book.proofs.Kept.{entry_there}
use Rattle.book.proofs.contents.Goals as goal

-- the rule of entry k, by the words that were read
turn : (room : List ℕ) (k before due date start size : ℕ) → before ≡ date_before room k → due ≡ due_at room k
    → date ≡ date_at room k → start ≡ start_at room k → size ≡ size_at room k
    → entry_rule (room_words room) (2 + 3 * k) before due date start size ≡ entry_rule_at room k
unfolding entry_rule_at
turn room k before due date start size b d t s z = rw (b, d, t, s, z)

pub loop-k-init : goal.loop-k-init
unfolding date_before
loop-k-init c = (refl, omega (arith, due_first c.args.book.now), omega arith, rw sub-zero)

pub returns-in_err-check : goal.returns-in_err-check
returns-in_err-check c =
    let l = c.loop-k.invariant in
    let read = c.read-entry.ensures.read in
    let refused = sym (c.in_err-check.ensures ∙ turn _ _ _ _ _ _ _ l.0 l.1 read.0 read.1.0 read.1.1) in
    grind (arith, in_order)

pub loop-k-preserved : goal.loop-k-preserved
unfolding date_before
loop-k-preserved c =
    let l = c.loop-k.invariant in
    let read = c.read-entry.ensures.read in
    let accepted = sym (c.in_ok-check.ensures ∙ turn _ _ _ _ _ _ _ l.0 l.1 read.0 read.1.0 read.1.1) in
    let kept = entry_there _ _ (ap number_of accepted) in (
      rw add-one read.0,
      rw add-one (omega (arith, due_suc c.args.book.now c.loop-k.k)),
      omega (arith, kept.inside),
      grind (arith, in_order),
    )

pub returns : goal.returns
returns c = grind (arith, in_order)

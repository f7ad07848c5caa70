use Rattle.std.proofs.Common.{◌≡◌, ℕ, suc, ◌+◌, ◌*◌, ◌-◌, ◌≤◌, ◌<◌, ◌/◌, cond, eqb, List, length, refl, sym, ◌∙◌, add-one, arith}
use borrow.Author.Tests.{eq-eqb, ne_eqb}
use Rattle.words.specs.Word.{word_at}
use Rattle.verdict.specs.Verdict.{number_of}
use Rattle.contents.specs.File.{number_at}
use Rattle.contents.specs.BodyPart.{body_part}
use Rattle.dayfile.specs.Check.{check_of}
use Rattle.dayfile.specs.Lookup.{nothing, part_from}
use Rattle.dayfile.proofs.Lookup.{at_start}
use Rattle.dayfile.proofs.Facts.{within_limits, file_head, file_entry}
use Rattle.dayfile.proofs.find.Goals as goal

-- at k below n: the entry, or the rest
module _ (file : List ℕ) (area k n : ℕ) (below : k < n) where
  unroll : part_from file area k (n - k) ≡ cond (eqb (number_at file k) area) (body_part file k) (part_from file area (k + 1) (n - (k + 1)))
  unfolding part_from
  unroll =
      let e : n - k ≡ suc (n - (k + 1)) = omega arith in
      rw (e, add-one k)

  here : number_at file k ≡ area → part_from file area k (n - k) ≡ body_part file k
  here h = unroll ∙ simp (eq-eqb _ _ h)

  next : (number_at file k ≡ area → ⊥) → part_from file area k (n - k) ≡ part_from file area (k + 1) (n - (k + 1))
  next h = unroll ∙ simp (ne_eqb _ _ h)

none : (file : List ℕ) (area k n : ℕ) → n ≤ k → part_from file area k (n - k) ≡ nothing
unfolding part_from
none file area k n h =
    let e : n - k ≡ 0 = omega arith in
    rw e

contents : (file : List ℕ) → number_of (check_of file) ≡ 0 → 4 + 3 * word_at file 2 ≤ length file / 4
contents file accepted = (file_head _ file (within_limits file accepted)).room

pub word-n-requires : goal.word-n-requires
word-n-requires c = let room = contents c.args.file.now c.requires in omega arith

pub word-requires : goal.word-requires
word-requires c = let room = contents c.args.file.now c.requires in omega arith

pub body_at-requires : goal.body_at-requires
body_at-requires c =
    let file = c.args.file.now in
    let room = contents file c.requires in
    let e = file_entry _ file (within_limits file c.requires) c.loop-k.k (omega (arith, c.loop-k-test.true)) in
    (omega arith, omega (arith, e.inside))

pub returns-then-word-area : goal.returns-then-word-area
returns-then-word-area c =
    rw (c.loop-k.invariant.rest ∙ here _ _ _ _ (omega arith) (sym c.word.ensures ∙ c.if-word-area.true)) c.body_at.ensures

pub loop-k-preserved : goal.loop-k-preserved
loop-k-preserved c = record {
  count = c.loop-k.invariant.count;
  rest = c.loop-k.invariant.rest ∙ next _ _ _ _ (omega arith) (λ q. c.if-word-area.false (c.word.ensures ∙ q));
}

pub returns : goal.returns
returns c =
    let file = c.args.file in
    rw (c.loop-k.invariant.rest ∙ none _ _ _ _ (omega arith)) (refl, at_start file)

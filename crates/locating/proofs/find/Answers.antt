use Rattle.std.proofs.Common.{◌≡◌, ℕ, ◌+◌, ◌*◌, ◌-◌, ◌≤◌, cond, eqb, List, sym, ◌∙◌, lt-ltb, eq-eqb, arith}
use borrow.Author.Tests.{le-ltb, ne_eqb}
use Rattle.locating.specs.declared.Field.TheVariants.{Nowhere}
use Rattle.locating.specs.Locating.{word_within, start_within, holder_from, in_body, in_body_of, behind_contents, place_of}
use Rattle.locating.proofs.find.Goals as goal

pub returns-then-at-lt4 : goal.returns-then-at-lt4
unfolding place_of
returns-then-at-lt4 c = rw (c.head_field.ensures, lt-ltb _ _ c.if-at-lt4.true)

pub returns-then-at-n : goal.returns-then-at-n
unfolding place_of
returns-then-at-n c =
    rw (c.entry_field.ensures, le-ltb _ _ c.if-at-lt4.false, lt-ltb _ _ (rw c.word-n.ensures at c.if-at-n.true))

-- behind the contents: in the body that holds the word, or in none
module _ (file : List ℕ) (at n k : ℕ) (contents : 4 + 3 * n ≤ at) (is : n ≡ word_within file 2) (found : k ≡ holder_from file at 0 n) where
  behind : place_of file at ≡ cond (eqb k n) (record { entry = 0; hour = 0; field = Nowhere }) (in_body_of file k at)
  unfolding place_of behind_contents
  behind = rw (le-ltb at 4 (omega arith), ← is, le-ltb at (4 + 3 * n) contents, found)

  in-none : k ≡ n → record { entry = 0; hour = 0; field = Nowhere } ≡ place_of file at
  in-none e = sym (behind ∙ rw (eq-eqb k n e))

  in_one : (k ≡ n → ⊥) → in_body_of file k at ≡ place_of file at
  in_one e = sym (behind ∙ rw (ne_eqb k n e))

body_there : (file : List ℕ) (k at start points coordinators : ℕ) → start ≡ start_within file k → points ≡ word_within file (start + 5)
    → coordinators ≡ word_within file (start + 6) → in_body k points coordinators (at - start) ≡ in_body_of file k at
unfolding in_body_of
body_there file k at start points coordinators e f g = rw (f, g, e)

pub returns-then-k-n : goal.returns-then-k-n
returns-then-k-n c = in-none _ _ _ _ c.if-at-n.false c.word-n.ensures c.holder-k.ensures.found.0 c.if-k-n.true

pub overflow_sub-at-2 : goal.overflow_sub-at-2
overflow_sub-at-2 c = rw c.word-start.ensures (c.holder-k.ensures.starts_before c.if-k-n.false)

pub returns : goal.returns
returns c =
    c.in_body.ensures
    ∙ body_there _ _ _ _ _ _ c.word-start.ensures c.word-load.ensures c.word-count.ensures
    ∙ in_one _ _ _ _ c.if-at-n.false c.word-n.ensures c.holder-k.ensures.found.0 c.if-k-n.false

use Rattle.std.proofs.Common.{◌≡◌, ◌+◌, ◌*◌, ◌≤◌, ◌<◌, ℕ, List, false, refl, sym, ap, ◌∙◌, length, get_or, set, length-set, get_or-set_same, get_or-set_other, add-one, below_more, arith}
use native.Mathlib.Nat.{sub-zero}
use Rattle.exact.proofs.Lending.{part_length}
use Rattle.limits.specs.Ranges.{least_body_words}
use Rattle.verdict.specs.Verdict.{number_of}
use Rattle.verdict.proofs.First.{handed_on_in, loop_next, loop_stop, loop_done}
use Rattle.body.specs.Layout.{kind_of}
use Rattle.body.specs.Plain.{plain_area}
use Rattle.body.proofs.Rules.{one_ciso}
use Rattle.contents.specs.File.{start_at, size_at, body_at}
use Rattle.dayfile.specs.Ciso.{ciso_before}
use Rattle.dayfile.specs.Check.{contents_rule, body_rule_at, bodies_rule}
use Rattle.dayfile.proofs.Entries.{entry}
use Rattle.dayfile.proofs.bodies.Goals as goal

-- the body of entry k: it has the words that a body has at least, and lies within the file
here : (most : ℕ) (file : List ℕ) (n k : ℕ) → number_of (contents_rule most file n) ≡ 0 → k < n
    → (least_body_words ≤ size_at file k) × (4 * start_at file k + 4 * size_at file k ≤ length file)
here most file n k accepted below =
    let e = entry most file n k accepted below in
    (e.least, omega (arith, e.inside))

-- and its bytes are those words
size : (most : ℕ) (file : List ℕ) (n k : ℕ) → number_of (contents_rule most file n) ≡ 0 → k < n → 4 * least_body_words ≤ length (body_at file k)
size most file n k accepted below =
    let e = here most file n k accepted below in
    omega (arith, part_length file (4 * start_at file k) (4 * size_at file k) e.1, e.0)

pub loop-area-init : goal.loop-area-init
unfolding ciso_before bodies_rule
loop-area-init c = record {
  counted = refl;
  one = omega arith;
  rest = simp sub-zero;
  room = refl;
  told = record { each = λ k p. absurd (omega arith) };
}

pub body_at-body-requires : goal.body_at-body-requires
body_at-body-requires c =
    let e = here _ c.args.file.now _ c.loop-area.area c.requires.contents_accepted.1.1 c.loop-area-test.true in
    (omega (arith, c.requires.contents_accepted), e.1)

pub check-requires : goal.check-requires
check-requires c =
    let least = size _ c.args.file.now _ c.loop-area.area c.requires.contents_accepted.1.1 c.loop-area-test.true in
    (c.requires.proved.0.points, (c.loop-area.invariant.one, (omega arith, rw c.body_at-body.ensures.0 (omega arith))))

pub returns-in_err-told-clause-answer_value : goal.returns-in_err-told-clause-answer_value
unfolding body_rule_at
returns-in_err-told-clause-answer_value c =
    let l = c.loop-area.invariant in
    let is = rw (l.counted, c.word-start.ensures, c.body_at-body.ensures.0) at c.in_err-told.ensures.answer_value in
    handed_on_in _ _ _ c.from_residual.ensures.1 (loop_stop _ _ _ _ _ l.rest c.loop-area-test.true (sym is))

pub word-ciso-requires : goal.word-ciso-requires
word-ciso-requires c =
    let least = size _ c.args.file.now _ c.loop-area.area c.requires.contents_accepted.1.1 c.loop-area-test.true in
    rw c.body_at-body.ensures.0 (omega arith)

pub overflow_add-ciso : goal.overflow_add-ciso
overflow_add-ciso c =
    let one = one_ciso _ _ _ _ (ap number_of (sym c.in_ok-told.ensures.answer_value)) in
    omega (arith, c.word-ciso.ensures)

pub loop-area-preserved : goal.loop-area-preserved
unfolding ciso_before body_rule_at
loop-area-preserved c =
    let l = c.loop-area in
    let f = c.args.file.now in
    let told = c.in_ok-told.ensures in
    let inside : l.area < length l.plain = omega (arith, l.invariant.room, c.requires.proved.1, c.loop-area-test.true) in
    let kind = c.word-ciso.ensures ∙ ap kind_of c.body_at-body.ensures.0 in
    let one = one_ciso _ _ _ _ (ap number_of (sym told.answer_value)) in
    let is = rw (l.invariant.counted, c.word-start.ensures, c.body_at-body.ensures.0) at told.answer_value in
    record {
      counted = rw (add-one, l.invariant.counted, kind);
      one = omega (arith, c.word-ciso.ensures);
      rest = loop_next _ _ _ _ _ l.invariant.rest c.loop-area-test.true (sym is);
      room = simp length-set l.invariant.room;
      told = record {
        each = below_more (λ k. get_or (set l.plain l.area _) k false ≡ plain_area (body_at f k)) l.area
            (λ k h. get_or-set_other l.plain l.area k _ false (λ c. omega arith) ∙ l.invariant.told.each k h)
            (get_or-set_same l.plain l.area _ false inside ∙ told.plain_value ∙ ap plain_area c.body_at-body.ensures.0);
      };
    }

pub returns-clause-answer_value : goal.returns-clause-answer_value
returns-clause-answer_value c = loop_done _ _ _ _ c.loop-area.invariant.rest c.loop-area-test.false

-- The words of a file whose contents keep their rules: every accepted file, and every one that is refused behind its contents.
use Prim.Native.Nat.{ℕ, zero, suc, ◌+◌, ◌*◌, ◌-◌, ◌/◌, ◌%◌, ◌≤◌, ◌<◌}
use mathlib.Core.Bool.{true, false}
use mathlib.Core.List.{List}
use mathlib.Core.Path.{◌≡◌, sym, ap, ◌∙◌}
use mathlib.Core.Logic.{dite}
use native.Mathlib.Decide.{ℕ_discrete}
use native.Mathlib.Omega.{arith}
use lib.ListN.{length}
use borrow.Author.Tests.{lt-ltb, le-ltb, le-leb, lt-leb, ne_eqb}
use Rattle.words.specs.Word.{word_at}
use Rattle.words.proofs.Part.{word_part}
use Rattle.limits.specs.declared.Limits.{Limits}
use Rattle.limits.specs.Ranges.{least_body_words}
use Rattle.verdict.specs.Verdict.{number_of, place_of}
use Rattle.body.specs.Layout.{points_of, coordinators_of}
use Rattle.contents.specs.File.{areas_of, start_at, size_at, due_at, body_at}
use Rattle.locating.specs.Locating as L
use Rattle.dayfile.specs.Check.{check_of}
use Rattle.acceptance.specs.WellFormed.{FileKept}
use Rattle.acceptance.proofs.Acceptance.{accepted_exactly, first_broken}
use Rattle.locating_theorems.specs.Found.{Found}

module _ (limits : Limits) (file : List ℕ) (p : ℕ) (kept : FileKept limits file p) (contents : 4 + 3 * areas_of file ≤ p) where
  abbrev size : ℕ
  size = length file / 4

  -- a word of the file is read as it stands
  within : (i : ℕ) → i < size → L.word_within file i ≡ word_at file i
  unfolding L.word_within
  within i h = rw (lt-leb _ i h)

  room : 4 + 3 * areas_of file ≤ size
  room = (kept.areas (omega (arith, contents))).2

  areas-are : L.word_within file 2 ≡ areas_of file
  areas-are = within 2 (omega (arith, room))

  module _ (k : ℕ) (below : k < areas_of file) where
    due : start_at file k ≡ due_at file (areas_of file) k
    due = kept.body_start k below (omega (arith, contents))

    least : least_body_words ≤ size_at file k
    least = (kept.body_size k below (omega (arith, contents))).0

    inside : start_at file k + size_at file k ≤ size
    inside = (kept.body_size k below (omega (arith, contents))).2

    start_is : L.start_within file k ≡ start_at file k
    start_is = within _ (omega (arith, room))

    size_is : L.size_within file k ≡ size_at file k
    size_is = within _ (omega (arith, room))

  -- the bodies follow each other, the first behind the contents
  behind-contents : (k : ℕ) → k < areas_of file → 4 + 3 * areas_of file ≤ start_at file k
  unfolding due_at
  behind-contents zero below = omega (arith, due zero below)
  behind-contents (suc k) below = omega (arith, due (suc k) below, behind-contents k (omega arith))

  ends-before : (j k : ℕ) → j < k → k < areas_of file → start_at file j + size_at file j ≤ start_at file k
  unfolding due_at
  ends-before j zero before below = omega arith
  ends-before j (suc k) before below =
      dite (ℕ_discrete j k)
      (λ e. omega (arith, due (suc k) below, ap (start_at file) e, ap (size_at file) e))
      (λ e. omega (arith, due (suc k) below, ends-before j k (omega (arith, e)) (omega arith)))

  module _ (k : ℕ) (below : k < areas_of file) (j : ℕ) (held : j < size_at file k) where
    abbrev word : ℕ
    word = start_at file k + j

    holds-it : L.holds file word k ≡ true
    holds-it =
        rw (
          start_is k below,
          size_is k below,
          le-leb (start_at file k) (start_at file k + j) (omega arith),
          lt-ltb (start_at file k + j) (start_at file k + size_at file k) (omega arith),
        )

    not_earlier : (i : ℕ) → i < k → L.holds file word i ≡ false
    not_earlier i before =
        let b : i < areas_of file = omega arith in
        let e = ends-before i k before below in
        rw (
          start_is i b,
          size_is i b,
          le-leb (start_at file i) (start_at file k + j) (omega (arith, e)),
          le-ltb (start_at file k + j) (start_at file i + size_at file i) (omega (arith, e)),
        )

    holder : (m i : ℕ) → i + m ≡ areas_of file → i ≤ k → L.holder_from file word i m ≡ k
    unfolding L.holder_from
    holder zero i all before = omega arith
    holder (suc m) i all before =
        dite (ℕ_discrete i k)
        (λ e. rw (ap (L.holds file word) e ∙ holds-it) e)
        (λ e. rw (not_earlier i (omega (arith, e))) (holder m (suc i) (omega arith) (omega (arith, e))))

    in-body : L.place_of file word ≡ L.in_body k (points_of (body_at file k)) (coordinators_of (body_at file k)) j
    unfolding L.place_of L.behind_contents L.in_body_of
    in-body =
        let start = start_at file k in
        let front = behind-contents k below in
        let whole = inside k below in
        let found : L.holder_from file (start + j) 0 (areas_of file) ≡ k = holder (areas_of file) 0 (omega arith) (omega arith) in
        let head : (i : ℕ) → i < 7 → L.word_within file (start + i) ≡ word_at (body_at file k) i =
        λ i h.
        within (start + i) (omega (arith, whole, least k below)) ∙ sym (word_part file start (size_at file k) i (omega (arith, least k below))) in
        let rest : start + j - start ≡ j = omega arith in
        rw (
          le-ltb (start + j) 4 (omega (arith, front)),
          areas-are,
          le-ltb (start + j) (4 + 3 * areas_of file) (omega (arith, front)),
          found,
          ne_eqb k (areas_of file) (λ q. omega (arith, q, below)),
          start_is k below,
          head 5 (omega arith),
          head 6 (omega arith),
          rest,
        )

  pub found_kept : Found file
  unfolding L.place_of
  found_kept =
      record {
        head = λ i h. rw (lt-ltb i 4 h);
        entry = λ k i below h.
            let order : (4 + 3 * k + i - 4) / 3 ≡ k = omega arith in
            let number : (4 + 3 * k + i - 4) % 3 ≡ i = omega arith in
            rw (le-ltb (4 + 3 * k + i) 4 (omega arith), areas-are, lt-ltb (4 + 3 * k + i) (4 + 3 * areas_of file) (omega arith), order, number);
        body = λ k j below held. in-body k below j held;
      }

-- every word of an accepted file
pub accepted_found : (file : List ℕ) → number_of (check_of file) ≡ 0 → Found file
accepted_found file z =
    let w = (accepted_exactly file).0 z in
    found_kept _ file _ w.words_kept (w.words_kept.areas (omega (arith, w.length_kept.least))).2

-- and of a file that the check refuses behind its contents: the word that it names, and every other
pub refused_found : (file : List ℕ) → (number_of (check_of file) ≡ 0 → ⊥) → (number_of (check_of file) ≡ 1 → ⊥)
    → 4 + 3 * areas_of file ≤ place_of (check_of file) → Found file
refused_found file refused placed behind = found_kept _ file _ (first_broken file refused placed).before behind

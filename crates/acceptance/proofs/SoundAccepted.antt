-- An accepted file's bodies are sound; and a file of which it is known that every number is in its range is accepted, so that one that was put
-- together can be shown to be accepted.
use Prim.Native.Nat.{ℕ, ◌+◌, ◌/◌, ◌≤◌, ◌<◌}
use mathlib.Core.List.{List}
use mathlib.Core.Path.{◌≡◌}
use native.Mathlib.Nat.{le_refl}
use native.Mathlib.Omega.{arith}
use lib.ListN.{length}
use Rattle.words.specs.Word.{word_at}
use Rattle.limits.specs.declared.Limits.{Limits}
use Rattle.verdict.specs.Verdict.{number_of}
use Rattle.body.specs.Layout.{kind_of}
use Rattle.body.specs.Check.{body_rule}
use Rattle.body.specs.Kept.{BodyKept, Always, Sound}
use Rattle.body.proofs.Kept.{kept_by, always}
use Rattle.contents.specs.File.{number_at, start_at, size_at, number_before, due_at, body_at}
use Rattle.dayfile.specs.Ciso.{ciso_before}
use Rattle.dayfile.specs.Check.{check_within}
use Rattle.dayfile.proofs.Entries.{Entry}
use Rattle.dayfile.proofs.Facts.{Length, Head, file_entry, file_body, body_length}
use Rattle.acceptance.proofs.BodyWords.{body_judged}
use Rattle.acceptance.proofs.Acceptance.{well_formed_accepts}

-- every number of an accepted body is in its range
body_sound : (start : ℕ) (body : List ℕ) (limits : Limits) (ciso : ℕ) → 7 ≤ length body / 4 → number_of (body_rule start body limits ciso) ≡ 0
    → Sound limits.points body
body_sound start body limits ciso some z =
    let upto : (j : ℕ) → BodyKept (λ i. start + i < start + j + 1) limits.points ciso body = λ j. (body_judged start body limits ciso some).all z
    (start + j + 1) in
    kept_by (λ j i. start + i < start + j + 1) (λ _. Always) _ _ ciso 0 body (le_refl _) (λ g. omega (arith, ((upto 0).kind (omega arith)).0))
    (λ j g. (omega arith, upto j))

-- every word of a sound body keeps its rule, where no second CISO area stands in the file
sound_kept : (most start : ℕ) (body : List ℕ) (ciso : ℕ) → Sound most body → ciso + kind_of body ≤ 1 → (p : ℕ)
    → BodyKept (λ j. start + j < p) most ciso body
sound_kept most start body ciso s one p = kept_by (λ _ _. Always) (λ j. start + j < p) most most 0 ciso body (le_refl _) (λ g. one) (λ j g. (always, s))

pub file_sound : (limits : Limits) (file : List ℕ) → number_of (check_within limits file) ≡ 0 → (k : ℕ) → k < word_at file 2
    → Sound limits.points (body_at file k)
file_sound limits file accepted k below =
    body_sound (start_at file k) (body_at file k) limits (ciso_before file k)
    (omega (arith, body_length limits file accepted k below, (file_entry limits file accepted k below).least)) (file_body limits file accepted k below)

module _ (limits : Limits) (file : List ℕ) where
  pub file_accepts : Length limits (length file)
      → Head limits.areas (length file / 4) (word_at file 0) (word_at file 1) (word_at file 2) (word_at file 3)
      → ((k : ℕ) → k < word_at file 2
      → Entry limits.words (length file / 4) (word_at file 2) k (number_before file k) (due_at file (word_at file 2) k) (number_at file k) (start_at file k)
      (size_at file k))
      → ((k : ℕ) → k < word_at file 2 → Sound limits.points (body_at file k))
      → ((k : ℕ) → k < word_at file 2 → ciso_before file k + kind_of (body_at file k) ≤ 1)
      → number_of (check_within limits file) ≡ 0
  file_accepts long head entry sound one =
      well_formed_accepts limits file (record { least = long.least; most = long.most_bytes; whole = long.whole })
      (record {
        edition = λ g. head.edition_known_lem;
        day = λ g. head.real;
        areas = λ g. (head.some, head.few, head.room);
        peak = λ g. head.peak_known;
        number = λ k l g. ((entry k l).rising, (entry k l).small);
        body_start = λ k l g. (entry k l).here;
        body_size = λ k l g. ((entry k l).least, (entry k l).most_words, (entry k l).inside, (entry k l).last);
        body = λ k l g. sound_kept limits.points (start_at file k) (body_at file k) (ciso_before file k) (sound k l) (one k l) _;
      })

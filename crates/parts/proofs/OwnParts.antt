-- Every accepted file is the file of its own parts.
use Prim.Native.Nat.{ℕ, zero, suc, ◌+◌, ◌*◌, ◌<◌}
use mathlib.Core.List.{List, [], ◌∷◌, ◌++◌}
use mathlib.Core.Path.{◌≡◌, refl, sym, ap, ap₂, ◌∙◌}
use native.Mathlib.Omega.{arith}
use lib.ListN.{length, drop, take-append-drop, drop_of_length-le}
use lib.Seq.{drop-drop}
use Rattle.words.specs.Word.{word_at}
use Rattle.limits.specs.declared.Limits.{Limits}
use Rattle.verdict.specs.Verdict.{number_of}
use Rattle.contents.specs.File.{edition_of, day_of, areas_of, peak_of, number_at, start_at, size_at, due_at, body_at}
use Rattle.contents.specs.Parts.{size_of, contents_of, bodies_of, front_of, file_of, area_of, areas_from, parts_of}
use Rattle.dayfile.specs.Check.{check_within}
use Rattle.dayfile.proofs.Facts.{file_length, file_head, file_entry, body_length}
use Rattle.words.specs.Bytes.{words_bytes, words_from, Below}
use Rattle.words.proofs.Bytes.{words_bytes_lem}

module _ (limits : Limits) (file : List ℕ) (accepted : number_of (check_within limits file) ≡ 0) where
  abbrev n : ℕ
  n = areas_of file

  pub size_is : (k : ℕ) → k < n → size_of (area_of file k) ≡ size_at file k
  size_is k h = omega (arith, body_length limits file accepted k h)

  start_is : (k : ℕ) → k < n → start_at file k ≡ due_at file n k
  start_is k h = (file_entry limits file accepted k h).here

  due_next : (k : ℕ) → due_at file n (suc k) ≡ start_at file k + size_at file k
  unfolding due_at
  due_next k = refl

  contents-own : (k m : ℕ) → k + m ≡ n → contents_of (due_at file n k) (areas_from file k m) ≡ words_from file (4 + 3 * k) (3 * m)
  unfolding contents_of areas_from words_from
  contents-own k zero e = refl
  contents-own k (suc m) e =
      let below : k < n = omega arith in
      let words : 3 * suc m ≡ suc (suc (suc (3 * m))) = omega arith in
      let second : 4 + 3 * k + 1 ≡ suc (4 + 3 * k) = omega arith in
      let third : 4 + 3 * k + 2 ≡ suc (suc (4 + 3 * k)) = omega arith in
      let next : 4 + 3 * suc k ≡ suc (suc (suc (4 + 3 * k))) = omega arith in
      let due : due_at file n k + size_of (area_of file k) ≡ due_at file n (suc k) = omega (arith, start_is k below, size_is k below, due_next k) in
      rw words
      (ap₂ (λ b l. number_at file k ∷ b ∷ l) (sym (start_is k below) ∙ ap (word_at file) second)
      (ap₂ (λ d l. d ∷ l) (size_is k below ∙ ap (word_at file) third)
      (ap (λ start. contents_of start (areas_from file (suc k) m)) due ∙ contents-own (suc k) m (omega arith) ∙ ap (λ i. words_from file i (3 * m)) next)))

  -- the last body ends with the file
  nothing_left : (k : ℕ) → k ≡ n → drop (4 * due_at file n k) file ≡ []
  nothing_left zero e = absurd (omega (arith, (file_head limits file accepted).some))
  nothing_left (suc k) e =
      let end = (file_entry limits file accepted k (omega arith)).last (omega arith) in
      drop_of_length-le file {i = 4 * due_at file n (suc k)} (omega (arith, due_next k, end, (file_length limits file accepted).whole))

  bodies-own : (k m : ℕ) → k + m ≡ n → bodies_of (areas_from file k m) ≡ drop (4 * due_at file n k) file
  unfolding bodies_of areas_from
  bodies-own k zero e = sym (nothing_left k (omega arith))
  bodies-own k (suc m) e =
      let below : k < n = omega arith in
      let here = start_is k below in
      let next : 4 * due_at file n (suc k) ≡ 4 * start_at file k + 4 * size_at file k = omega (arith, due_next k) in
      ap (λ l. body_at file k ++ l) (bodies-own (suc k) m (omega arith) ∙ ap (λ j. drop j file) next
      ∙ sym (drop-drop (4 * size_at file k) (4 * start_at file k) file))
      ∙ take-append-drop (4 * size_at file k) (drop (4 * start_at file k) file)
      ∙ ap (λ start. drop (4 * start) file) here

  pub areas_count : (k m : ℕ) → length (areas_from file k m) ≡ m
  unfolding areas_from
  areas_count k zero = refl
  areas_count k (suc m) = ap suc (areas_count (suc k) m)

  front-own : front_of (edition_of file) (day_of file) (peak_of file) (parts_of file) ≡ words_from file 0 (4 + 3 * n)
  unfolding words_from due_at
  front-own =
      let words : 4 + 3 * n ≡ suc (suc (suc (suc (3 * n)))) = omega arith in
      rw (areas_count 0 n, words)
      (ap (λ l. word_at file 0 ∷ word_at file 1 ∷ n ∷ word_at file 3 ∷ l)
      (ap (λ start. contents_of start (parts_of file)) (sym words) ∙ contents-own 0 n (omega arith)))

  pub own_parts : Below 256 file → file_of (edition_of file) (day_of file) (peak_of file) (parts_of file) ≡ file
  unfolding file_of due_at
  own_parts bytes =
      ap₂ ◌++◌ (ap words_bytes front-own ∙ words_bytes_lem file bytes 0 (4 + 3 * n) (omega (arith, (file_head limits file accepted).room)))
      (bodies-own 0 n (omega arith))
      ∙ take-append-drop (4 * (4 + 3 * n)) file

-- What stands where in a file of parts.
use Prim.Native.Nat.{ℕ, zero, suc, ◌+◌, ◌*◌, ◌<◌}
use mathlib.Core.List.{List, [], ◌∷◌}
use mathlib.Core.Path.{◌≡◌, refl, sym, ap, ◌∙◌}
use native.Mathlib.Omega.{arith}
use native.Mathlib.Nat.{add-zero}
use lib.ListN.{length, get_or, take, drop, length-append}
use lib.Seq.{get_or-append-add, drop-append-add, take_at}
use Rattle.words.specs.Word.{word_at}
use Rattle.contents.specs.File.{edition_of, day_of, areas_of, peak_of, number_at, start_at, size_at, body_at}
use Rattle.words.specs.Bytes.{words_bytes, Below}
use Rattle.contents.specs.Parts.{Area, size_of, contents_of, bodies_of, front_of, file_of, area_at, words_to}
use Rattle.words.proofs.Words.{words_length, word_written}

-- ---- the contents

words_none : (areas : List Area) → words_to areas 0 ≡ 0
unfolding words_to
words_none areas = refl

pub words_shift : (area : Area) (areas : List Area) (k : ℕ) → words_to (area ∷ areas) (suc k) ≡ size_of area + words_to areas k
unfolding words_to
words_shift area areas zero = omega arith
words_shift area areas (suc k) = omega (arith, words_shift area areas k)

-- word j of the entry behind the first
entry_next : (start : ℕ) (area : Area) (areas : List Area) (k j : ℕ)
    → get_or (contents_of start (area ∷ areas)) (3 * suc k + j) 0 ≡ get_or (contents_of (start + size_of area) areas) (3 * k + j) 0
unfolding contents_of
entry_next start area areas k j =
    let e : 3 * suc k + j ≡ 3 + (3 * k + j) = omega arith in
    rw e (get_or-append-add (area.number ∷ start ∷ size_of area ∷ []) (contents_of (start + size_of area) areas) (3 * k + j) 0)

contents_number : (start : ℕ) (areas : List Area) (k : ℕ) → k < length areas → get_or (contents_of start areas) (3 * k + 0) 0 ≡ (area_at areas k).number
unfolding contents_of
contents_number start [] k h = absurd (omega arith)
contents_number start (area ∷ areas) zero h = refl
contents_number start (area ∷ areas) (suc k) h = entry_next start area areas k 0 ∙ contents_number (start + size_of area) areas k (omega arith)

contents_start : (start : ℕ) (areas : List Area) (k : ℕ) → k < length areas → get_or (contents_of start areas) (3 * k + 1) 0 ≡ start + words_to areas k
unfolding contents_of
contents_start start [] k h = absurd (omega arith)
contents_start start (area ∷ areas) zero h = omega (arith, words_none (area ∷ areas))
contents_start start (area ∷ areas) (suc k) h =
    entry_next start area areas k 1 ∙ contents_start (start + size_of area) areas k (omega arith) ∙ omega (arith, words_shift area areas k)

contents_size : (start : ℕ) (areas : List Area) (k : ℕ) → k < length areas → get_or (contents_of start areas) (3 * k + 2) 0 ≡ size_of (area_at areas k)
unfolding contents_of
contents_size start [] k h = absurd (omega arith)
contents_size start (area ∷ areas) zero h = refl
contents_size start (area ∷ areas) (suc k) h = entry_next start area areas k 2 ∙ contents_size (start + size_of area) areas k (omega arith)

contents_length : (start : ℕ) (areas : List Area) → length (contents_of start areas) ≡ 3 * length areas
unfolding contents_of
contents_length start [] = refl
contents_length start (area ∷ areas) = omega (arith, contents_length (start + size_of area) areas)

-- ---- the bodies

pub record Whole (areas : List Area) : Type 0 where
  pub each : (k : ℕ) → k < length areas → length (area_at areas k).body ≡ 4 * size_of (area_at areas k)

whole_rest : (area : Area) (areas : List Area) → Whole (area ∷ areas) → Whole areas
whole_rest area areas w = record { each = λ k h. w.each (suc k) (omega arith) }

bodies_length : (areas : List Area) → Whole areas → length (bodies_of areas) ≡ 4 * words_to areas (length areas)
unfolding bodies_of words_to
bodies_length [] w = refl
bodies_length (area ∷ areas) w =
    length-append area.body (bodies_of areas)
    ∙ omega (arith, w.each 0 (omega arith), bodies_length areas (whole_rest area areas w), words_shift area areas (length areas))

body_there : (areas : List Area) (k : ℕ) → Whole areas → k < length areas
    → take (4 * size_of (area_at areas k)) (drop (4 * words_to areas k) (bodies_of areas)) ≡ (area_at areas k).body
unfolding bodies_of
body_there [] k w h = absurd (omega arith)
body_there (area ∷ areas) zero w h = rw (words_none (area ∷ areas)) (take_at area.body (bodies_of areas) (4 * size_of area) (w.each 0 (omega arith)))
body_there (area ∷ areas) (suc k) w h =
    let long = w.each 0 (omega arith) in
    let e : 4 * words_to (area ∷ areas) (suc k) ≡ length area.body + 4 * words_to areas k = omega (arith, long, words_shift area areas k) in
    rw (e, drop-append-add area.body (bodies_of areas) (4 * words_to areas k)) (body_there areas k (whole_rest area areas w) (omega arith))

-- ---- the file

module _ (edition day peak : ℕ) (areas : List Area) (small : Below 4294967296 (front_of edition day peak areas)) where
  abbrev file : List ℕ
  file = file_of edition day peak areas

  abbrev n : ℕ
  n = length areas

  front_length : length (front_of edition day peak areas) ≡ 4 + 3 * n
  front_length = omega (arith, contents_length (4 + 3 * n) areas)

  word_there : (i : ℕ) → i < 4 + 3 * n → word_at file i ≡ get_or (front_of edition day peak areas) i 0
  unfolding file_of
  word_there i h = word_written (front_of edition day peak areas) (bodies_of areas) i small (omega (arith, front_length))

  pub edition_there : edition_of file ≡ edition
  edition_there = word_there 0 (omega arith)

  pub day_there : day_of file ≡ day
  day_there = word_there 1 (omega arith)

  pub count_there : areas_of file ≡ n
  count_there = word_there 2 (omega arith)

  pub peak_there : peak_of file ≡ peak
  peak_there = word_there 3 (omega arith)

  -- word j of entry k
  entry_there : (k j : ℕ) → k < n → j < 3 → word_at file (4 + 3 * k + j) ≡ get_or (contents_of (4 + 3 * n) areas) (3 * k + j) 0
  entry_there k j h l =
      let e : 4 + 3 * k + j ≡ 4 + (3 * k + j) = omega arith in
      word_there (4 + 3 * k + j) (omega arith)
      ∙ rw e (get_or-append-add (edition ∷ day ∷ n ∷ peak ∷ []) (contents_of (4 + 3 * n) areas) (3 * k + j) 0)

  module _ (k : ℕ) (below : k < n) where
    pub number_there : number_at file k ≡ (area_at areas k).number
    number_there = ap (word_at file) (sym (add-zero (4 + 3 * k))) ∙ entry_there k 0 below (omega arith) ∙ contents_number (4 + 3 * n) areas k below

    pub start_there : start_at file k ≡ 4 + 3 * n + words_to areas k
    start_there = entry_there k 1 below (omega arith) ∙ contents_start (4 + 3 * n) areas k below

    pub size_there : size_at file k ≡ size_of (area_at areas k)
    size_there = entry_there k 2 below (omega arith) ∙ contents_size (4 + 3 * n) areas k below

    behind-front : drop (4 * (4 + 3 * n + words_to areas k)) file ≡ drop (4 * words_to areas k) (bodies_of areas)
    unfolding file_of
    behind-front =
        let front = words_bytes (front_of edition day peak areas) in
        let e : 4 * (4 + 3 * n + words_to areas k)
        ≡ length front + 4 * words_to areas k = omega (arith, words_length (front_of edition day peak areas), front_length) in
        rw e (drop-append-add front (bodies_of areas) (4 * words_to areas k))

    pub body_is : Whole areas → body_at file k ≡ (area_at areas k).body
    body_is w = rw (size_there, start_there, behind-front) (body_there areas k w below)

  pub file_long : Whole areas → length file ≡ 4 * (4 + 3 * n + words_to areas n)
  unfolding file_of
  file_long w =
      length-append (words_bytes (front_of edition day peak areas)) (bodies_of areas)
      ∙ omega (arith, words_length (front_of edition day peak areas), front_length, bodies_length areas w)

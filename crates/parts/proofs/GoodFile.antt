-- A file of good parts keeps every rule of the check, and is accepted.
use Prim.Native.Nat.{ℕ, zero, suc, ◌+◌, ◌*◌, ◌/◌, ◌%◌, ◌≤◌, ◌<◌}
use mathlib.Core.Bool.{true, ◌&&◌}
use mathlib.Core.List.{List, [], ◌∷◌}
use mathlib.Core.Logic.{⊎_elim}
use mathlib.Core.Path.{◌≡◌, refl, ap, ap₂}
use native.Mathlib.Decide.{le_ind}
use native.Mathlib.Nat.{le_refl, le_trans}
use native.Mathlib.Numerals.{add-one}
use native.Mathlib.Omega.{arith}
use lib.Dec.{leb}
use lib.ListN.{length, get_or}
use borrow.Author.Tests.{leb-true}
use Rattle.words.specs.Word.{word_at}
use Rattle.limits.specs.declared.Limits.{Limits}
use Rattle.limits.specs.Ranges.{peak_word, proved_words}
use Rattle.limits.specs.Editions.{limits_of, Proved}
use Rattle.limits.proofs.Editions.{proved}
use Rattle.calendar.specs.Date.{real_date}
use Rattle.verdict.specs.Verdict.{number_of}
use Rattle.verdict.proofs.First.{both}
use Rattle.body.specs.Layout.{kind_of}
use Rattle.body.specs.Kept.{Sound}
use Rattle.contents.specs.File.{number_at, start_at, size_at, body_at, number_before, due_at}
use Rattle.contents.specs.Parts.{Area, size_of, contents_of, front_of, file_of, area_at, words_to}
use Rattle.contents.proofs.Parts.{words_shift, Whole, edition_there, day_there, count_there, peak_there, number_there, start_there, size_there}
use Rattle.contents.proofs.Parts.{body_is, file_long}
use Rattle.dayfile.specs.Ciso.{ciso_before}
use Rattle.dayfile.specs.Check.{check_of, check_within}
use Rattle.dayfile.proofs.Entries.{Entry}
use Rattle.dayfile.proofs.Facts.{Head, Length}
use Rattle.acceptance.proofs.SoundAccepted.{file_accepts}
use Rattle.words.specs.Bytes.{Below}
use Rattle.parts.specs.Good.{ciso_to, number_to, Good}

words_within : (areas : List Area) (k n : ℕ) → k < n → words_to areas k + size_of (area_at areas k) ≤ words_to areas n
unfolding words_to
words_within areas k n h = le_ind (λ m. words_to areas k + size_of (area_at areas k) ≤ words_to areas m) (le_refl _) (λ m _ p. le_trans p (omega arith)) n h

words_more : (areas : List Area) (k : ℕ) → words_to areas (k + 1) ≡ words_to areas k + size_of (area_at areas k)
unfolding words_to
words_more areas k = rw (add-one k)

date_small : (day : ℕ) → real_date day ≡ true → day < 4294967296
unfolding real_date
date_small day h =
    let year = leb 2000 (day / 10000) && leb (day / 10000) 2099 in
    let month = leb 1 (day / 100 % 100) in
    let months = leb (day / 100 % 100) 12 in
    let first = leb 1 (day % 100) in
    let a = both (year && month && months && first) _ h in
    let b = both (year && month && months) first a.0 in
    let d = both (year && month) months b.0 in
    let e = both year month d.0 in
    omega (arith, leb-true (day / 10000) 2099 (both (leb 2000 (day / 10000)) (leb (day / 10000) 2099) e.0).1)

contents_below : (start : ℕ) (areas : List Area) → ((k : ℕ) → k < length areas → (area_at areas k).number < 4294967296)
    → start + words_to areas (length areas) < 4294967296 → (i : ℕ) → i < length (contents_of start areas)
    → get_or (contents_of start areas) i 0 < 4294967296
unfolding contents_of
contents_below start [] numbers fits i h = absurd (omega arith)
contents_below start (area ∷ areas) numbers fits zero h = numbers 0 (omega arith)
contents_below start (area ∷ areas) numbers fits (suc zero) h = omega arith
contents_below start (area ∷ areas) numbers fits (suc (suc zero)) h = omega (arith, words_shift area areas (length areas))
contents_below start (area ∷ areas) numbers fits (suc (suc (suc i))) h =
    contents_below (start + size_of area) areas (λ k p. numbers (suc k) (omega arith)) (omega (arith, words_shift area areas (length areas))) i (omega arith)

module _ (limits : Limits) (edition day peak : ℕ) (areas : List Area) (good : Good limits edition day peak areas) (within : Proved limits) where
  abbrev n : ℕ
  n = length areas

  abbrev file : List ℕ
  file = file_of edition day peak areas

  pub whole : Whole areas
  whole = record { each = λ k h. (good.area k h).whole }

  -- within the limits of the proofs the bodies are short enough for their starts to be words
  bodies-few : (k : ℕ) → k ≤ n → words_to areas k ≤ proved_words * k
  unfolding words_to
  bodies-few zero h = omega arith
  bodies-few (suc k) h = omega (arith, bodies-few k (omega arith), (good.area k h).most, within.words)

  pub small : Below 4294967296 (front_of edition day peak areas)
  small = record { each = by }
    where
      by : (i : ℕ) → i < length (front_of edition day peak areas) → get_or (front_of edition day peak areas) i 0 < 4294967296
      by zero h = omega (arith, good.known)
      by (suc zero) h = date_small day good.real
      by (suc (suc zero)) h = omega (arith, good.few, within.areas)
      by (suc (suc (suc zero))) h = ⊎_elim (λ (e : peak ≡ 0). omega arith) (λ (e : peak ≡ peak_word). omega arith) good.peak_known
      by (suc (suc (suc (suc i)))) h =
          contents_below (4 + 3 * n) areas (λ k p. omega (arith, (good.area k p).small))
          (omega (arith, bodies-few n (le_refl _), good.few, within.areas)) i (omega arith)

  words : length file / 4 ≡ 4 + 3 * n + words_to areas n
  words = omega (arith, file_long edition day peak areas small whole)

  length_kept : Length limits (length file)
  length_kept =
      let long = file_long edition day peak areas small whole in
      record { least = omega arith; most_bytes = rw long good.fits; whole = omega arith }

  head_kept : Head limits.areas (length file / 4) (word_at file 0) (word_at file 1) (word_at file 2) (word_at file 3)
  head_kept =
      rw (
        edition_there edition day peak areas small,
        day_there edition day peak areas small,
        count_there edition day peak areas small,
        peak_there edition day
            peak areas small,
        words,
      )
      (record { edition_known_lem = good.known; real = good.real; some = good.some; few = good.few; room = omega arith; peak_known = good.peak_known })

  number-before : (k : ℕ) → k < n → number_before file k ≡ number_to areas k
  unfolding number_before number_to
  number-before zero h = refl
  number-before (suc k) h = number_there edition day peak areas small k (omega arith)

  due_there : (k : ℕ) → k < n → due_at file (word_at file 2) k ≡ 4 + 3 * n + words_to areas k
  unfolding due_at words_to
  due_there zero h = omega (arith, count_there edition day peak areas small)
  due_there (suc k) h = omega (arith, start_there edition day peak areas small k (omega arith), size_there edition day peak areas small k (omega arith))

  ciso-before : (k : ℕ) → k ≤ n → ciso_before file k ≡ ciso_to areas k
  unfolding ciso_before ciso_to
  ciso-before zero h = refl
  ciso-before (suc k) h = ap₂ (λ c b. c + kind_of b) (ciso-before k (omega arith)) (body_is edition day peak areas small k h whole)

  module _ (k : ℕ) (below : k < word_at file 2) where
    inside : k < n
    inside = omega (arith, count_there edition day peak areas small)

    entry_kept : Entry limits.words (length file / 4) (word_at file 2) k (number_before file k) (due_at file (word_at file 2) k) (number_at file k)
        (start_at file k) (size_at file k)
    entry_kept =
        let g = good.area k inside in
        let within = words_within areas k n inside in
        rw (
          words,
          number-before k inside,
          due_there k inside,
          number_there edition day peak areas small k inside,
          start_there edition day peak areas small
              k inside,
          size_there edition day peak areas small k inside,
          count_there edition day peak areas small,
        )
        (record {
          rising = g.rising;
          small = g.small;
          here = refl;
          least = g.least;
          most_words = g.most;
          inside = omega arith;
          last = λ e. omega (arith, ap (words_to areas) e, words_more areas k);
        })

    sound_kept : Sound limits.points (body_at file k)
    sound_kept = rw (body_is edition day peak areas small k inside whole) (good.area k inside).sound

    ciso-kept : ciso_before file k + kind_of (body_at file k) ≤ 1
    ciso-kept = rw (ciso-before k (omega (arith, inside)), body_is edition day peak areas small k inside whole) (good.area k inside).one_ciso

  pub good_accepted : number_of (check_within limits file) ≡ 0
  good_accepted = file_accepts limits file length_kept head_kept entry_kept sound_kept ciso-kept

-- within the limits that its first word sets
pub file_accepted : (edition day peak : ℕ) (areas : List Area) → Good (limits_of edition) edition day peak areas
    → number_of (check_of (file_of edition day peak areas)) ≡ 0
unfolding check_of
file_accepted edition day peak areas good =
    let limits = limits_of edition in
    rw (edition_there edition day peak areas (small limits edition day peak areas good (proved edition)))
    (good_accepted limits edition day peak areas good (proved edition))

-- The parts of an accepted file are good, and stay good where bodies are replaced by sound ones of the same kind that are not longer.
use Prim.Native.Nat.{ℕ, zero, suc, ◌+◌, ◌*◌, ◌/◌, ◌%◌, ◌≤◌, ◌<◌}
use mathlib.Core.List.{List}
use mathlib.Core.Path.{◌≡◌, refl, sym, ap, ap₂, ◌∙◌}
use native.Mathlib.Nat.{add-zero}
use native.Mathlib.Omega.{arith}
use lib.ListN.{length}
use Rattle.limits.specs.declared.Limits.{Limits}
use Rattle.limits.specs.Ranges.{least_body_words}
use Rattle.verdict.specs.Verdict.{number_of}
use Rattle.body.specs.Layout.{kind_of}
use Rattle.body.specs.Kept.{Sound}
use Rattle.contents.specs.File.{edition_of, day_of, areas_of, peak_of, number_before, due_at}
use Rattle.contents.specs.Parts.{Area, size_of, area_of, areas_from, parts_of, area_at, words_to}
use Rattle.dayfile.specs.Ciso.{ciso_before}
use Rattle.dayfile.specs.Check.{check_within}
use Rattle.acceptance.proofs.SoundAccepted.{file_sound}
use Rattle.dayfile.proofs.Facts.{file_length, file_head, file_entry, file_one_ciso, body_length}
use Rattle.parts.specs.Good.{ciso_to, number_to, GoodArea, Good}
use Rattle.parts.proofs.OwnParts.{areas_count, size_is}

areas_at_lem : (file : List ℕ) (k m j : ℕ) → j < m → area_at (areas_from file k m) j ≡ area_of file (k + j)
unfolding areas_from
areas_at_lem file k zero j h = absurd (omega arith)
areas_at_lem file k (suc m) zero h = ap (area_of file) (sym (add-zero k))
areas_at_lem file k (suc m) (suc j) h =
    let e : suc k + j ≡ k + suc j = omega arith in
    areas_at_lem file (suc k) m j (omega arith) ∙ ap (area_of file) e

pub own_area : (file : List ℕ) (k : ℕ) → k < areas_of file → area_at (parts_of file) k ≡ area_of file k
own_area file k h = let e : 0 + k ≡ k = omega arith in areas_at_lem file 0 (areas_of file) k h ∙ ap (area_of file) e

whole_words : (bytes : ℕ) → bytes % 4 ≡ 0 → 4 * (bytes / 4) ≡ bytes
whole_words bytes h = omega arith

module _ (limits : Limits) (file : List ℕ) (accepted : number_of (check_within limits file) ≡ 0) where
  abbrev n : ℕ
  n = areas_of file

  own-number : (k : ℕ) → k < n → number_to (parts_of file) k ≡ number_before file k
  unfolding number_to number_before
  own-number zero h = refl
  own-number (suc k) h = ap (λ a. a.number) (own_area file k (omega arith))

  own-ciso : (k : ℕ) → k ≤ n → ciso_to (parts_of file) k ≡ ciso_before file k
  unfolding ciso_to ciso_before
  own-ciso zero h = refl
  own-ciso (suc k) h = ap₂ (λ c a. c + kind_of a.body) (own-ciso k (omega arith)) (own_area file k h)

  pub own_words : (k : ℕ) → k ≤ n → 4 + 3 * n + words_to (parts_of file) k ≡ due_at file n k
  unfolding words_to due_at
  own_words zero h = add-zero (4 + 3 * n)
  own_words (suc k) h =
      omega (arith, own_words k (omega arith), ap size_of (own_area file k h), size_is limits file accepted k h, (file_entry limits file accepted k h).here)

  -- the last body ends with the file
  end-there : (k : ℕ) → k ≡ n → due_at file n k ≡ length file / 4
  unfolding due_at
  end-there zero e = absurd (omega (arith, (file_head limits file accepted).some))
  end-there (suc k) e = (file_entry limits file accepted k (omega arith)).last (omega arith)

  pub own_good : Good limits (edition_of file) (day_of file) (peak_of file) (parts_of file)
  own_good =
      let head = file_head limits file accepted in
      let long = areas_count limits file accepted 0 n in
      let bytes = file_length limits file accepted in
      record {
        known = head.edition_known_lem;
        real = head.real;
        some = omega (arith, long, head.some);
        few = omega (arith, long, head.few);
        peak_known = head.peak_known;
        area = λ k h. own-area-good k (omega (arith, h, long));
        fits = rw (long, own_words n (omega arith), end-there n refl, whole_words (length file) bytes.whole) bytes.most_bytes;
      }
    where
      own-area-good : (k : ℕ) → k < n → GoodArea limits (parts_of file) k
      own-area-good k h =
          let e = own_area file k h in
          let entry = file_entry limits file accepted k h in
          let size = size_is limits file accepted k h in
          record {
            rising = rw (e, own-number k h) entry.rising;
            small = rw e entry.small;
            whole = rw e (omega (arith, size, body_length limits file accepted k h));
            least = rw e (omega (arith, size, entry.least));
            most = rw e (omega (arith, size, entry.most_words));
            sound = rw e (file_sound limits file accepted k h);
            one_ciso = rw (e, own-ciso k (omega arith)) (file_one_ciso limits file accepted k h);
          }

-- ---- bodies replaced

pub record Replaced (limits : Limits) (area other : Area) : Type 0 where
  pub number : other.number ≡ area.number
  pub kind : kind_of other.body ≡ kind_of area.body
  pub whole : length other.body ≡ 4 * size_of other
  pub least : least_body_words ≤ size_of other
  pub not_longer : size_of other ≤ size_of area
  pub sound : Sound limits.points other.body

module _ (limits : Limits) (edition day peak : ℕ) (areas others : List Area) (same : length others ≡ length areas)
    (replaced : (k : ℕ) → k < length areas → Replaced limits (area_at areas k) (area_at others k)) where
  number-too : (k : ℕ) → k ≤ length areas → number_to others k ≡ number_to areas k
  unfolding number_to
  number-too zero h = refl
  number-too (suc k) h = (replaced k h).number

  ciso-too : (k : ℕ) → k ≤ length areas → ciso_to others k ≡ ciso_to areas k
  unfolding ciso_to
  ciso-too zero h = refl
  ciso-too (suc k) h = ap₂ ◌+◌ (ciso-too k (omega arith)) (replaced k h).kind

  words-too : (k : ℕ) → k ≤ length areas → words_to others k ≤ words_to areas k
  unfolding words_to
  words-too zero h = omega arith
  words-too (suc k) h = omega (arith, words-too k (omega arith), (replaced k h).not_longer)

  pub replaced_good : Good limits edition day peak areas → Good limits edition day peak others
  replaced_good good =
      record {
        known = good.known;
        real = good.real;
        some = omega (arith, same, good.some);
        few = omega (arith, same, good.few);
        peak_known = good.peak_known;
        area = λ k h. by k (omega (arith, h, same));
        fits = λ most e. rw same (omega (arith, good.fits most e, words-too (length areas) (omega arith)));
      }
    where
      by : (k : ℕ) → k < length areas → GoodArea limits others k
      by k h =
          let was = good.area k h in
          let now = replaced k h in
          record {
            rising = rw (number-too k (omega arith), now.number) was.rising;
            small = rw now.number was.small;
            whole = now.whole;
            least = now.least;
            most = omega (arith, now.not_longer, was.most);
            sound = now.sound;
            one_ciso = rw (ciso-too k (omega arith), now.kind) was.one_ciso;
          }

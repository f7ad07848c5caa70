-- A file that is put together is accepted, and has the day, the areas and the bodies that it was given.
use Prim.Native.Nat.{ℕ, ◌+◌, zero, suc, ◌*◌, ◌≤◌, ◌<◌}
use mathlib.Core.Bool.{true}
use mathlib.Core.List.{List, [], ◌∷◌, map}
use mathlib.Core.Logic.{inl}
use mathlib.Core.Path.{◌≡◌, refl, ap, ◌∙◌}
use native.Mathlib.Omega.{arith}
use lib.ListN.{length, get_or, length-map}
use Rattle.limits.specs.declared.Limits.{Limits}
use Rattle.limits.specs.Ranges.{most_deficiency, least_body_words}
use Rattle.limits.specs.Editions.{widest_edition, limits_of}
use Rattle.limits.proofs.Editions.{proved, widest_known, widest_room}
use Rattle.calendar.specs.Date.{real_date}
use Rattle.verdict.specs.Verdict.{number_of}
use Rattle.words.specs.Bytes.{Below}
use Rattle.contents.specs.File.{day_of, areas_of, number_at, body_at}
use Rattle.contents.specs.Parts.{Area, size_of, front_of, area_at, words_to}
use Rattle.contents.proofs.Parts.{day_there, count_there, number_there, body_is}
use Rattle.dayfile.specs.Check.{check_of}
use Rattle.parts.specs.Good.{ciso_to, number_to, GoodArea, Good}
use Rattle.parts.proofs.GoodFile.{whole, small, file_accepted}
use Rattle.made.specs.Made.{made_body, made_area, file_made, RisingNumbers, FileAreas}
use Rattle.made.proofs.MadeBody.{body_long, kind_there, made_sound}

-- ---- rising numbers

rising_first : (low a : ℕ) (areas : List ℕ) → RisingNumbers low areas → a < low → (k : ℕ) → k < length areas → a < get_or areas k 0
rising_first low a [] r h k p = absurd (omega arith)
rising_first low a (b ∷ areas) r h zero p = omega arith
rising_first low a (b ∷ areas) r h (suc k) p = rising_first (b + 1) a areas r.1 (omega arith) k (omega arith)

rising_next : (low : ℕ) (areas : List ℕ) → RisingNumbers low areas → (k : ℕ) → suc k < length areas → get_or areas k 0 < get_or areas (suc k) 0
rising_next low [] r k p = absurd (omega arith)
rising_next low (a ∷ areas) r zero p = rising_first (a + 1) a areas r.1 (omega arith) 0 (omega arith)
rising_next low (a ∷ areas) r (suc k) p = rising_next (a + 1) areas r.1 k (omega arith)

-- ---- the file

abbrev limits : Limits
limits = limits_of widest_edition

module _ (deficiency : ℕ) (low-enough : deficiency ≤ most_deficiency) where
  at : (areas : List ℕ) (k : ℕ) → k < length areas → area_at (map (made_area deficiency) areas) k ≡ made_area deficiency (get_or areas k 0)
  at [] k h = absurd (omega arith)
  at (a ∷ areas) zero h = refl
  at (a ∷ areas) (suc k) h = at areas k (omega arith)

  size : size_of (made_area deficiency 0) ≡ least_body_words
  size = omega (arith, body_long deficiency low-enough)

  module _ (date : ℕ) (real : real_date date ≡ true) (areas : List ℕ) (some : 1 ≤ length areas) (may : FileAreas areas) where
    abbrev made : List Area
    made = map (made_area deficiency) areas

    abbrev n : ℕ
    n = length areas

    count : length made ≡ n
    count = length-map areas (made_area deficiency)

    numbers : (k : ℕ) → k < n → number_to made k < get_or areas k 0
    unfolding number_to
    numbers zero h = rising_first 1 0 areas may.rising (omega arith) 0 h
    numbers (suc k) h = omega (arith, ap (λ a. a.number) (at areas k (omega arith)), rising_next 1 areas may.rising k h)

    no-ciso : (k : ℕ) → k ≤ n → ciso_to made k ≡ 0
    unfolding ciso_to
    no-ciso zero h = refl
    no-ciso (suc k) h = rw (at areas k h) (omega (arith, no-ciso k (omega arith), kind_there deficiency low-enough))

    words : (k : ℕ) → k ≤ n → words_to made k ≡ least_body_words * k
    unfolding words_to
    words zero h = refl
    words (suc k) h = rw (at areas k h) (omega (arith, words k (omega arith), size))

    good-area : (k : ℕ) → k < n → GoodArea limits made k
    good-area k h =
        let e = at areas k h in
        record {
          rising = rw e (numbers k h);
          small = rw e (omega (arith, may.small.each k h));
          whole = rw e (omega (arith, size, body_long deficiency low-enough));
          least = rw e (omega (arith, size));
          most = rw e (omega (arith, size, widest_room.words));
          sound = rw e (made_sound deficiency low-enough limits.points widest_room.points);
          one_ciso = rw (e, no-ciso k (omega arith)) (omega (arith, kind_there deficiency low-enough));
        }

    good : Good limits widest_edition date 0 made
    good =
        record {
          known = widest_known;
          real = real;
          some = omega (arith, count, some);
          few = omega (arith, count, may.few, widest_room.areas);
          peak_known = inl refl;
          area = λ k h. good-area k (omega (arith, h, count));
          fits = λ most e. rw count (omega (arith, words n (omega arith), may.few, widest_room.bytes most e));
        }

    abbrev front : Below 4294967296 (front_of widest_edition date 0 made)
    front = small limits widest_edition date 0 made good (proved widest_edition)

    pub made_accepted : number_of (check_of (file_made deficiency date areas)) ≡ 0
    unfolding file_made
    made_accepted = file_accepted widest_edition date 0 made good

    pub made_day : day_of (file_made deficiency date areas) ≡ date
    unfolding file_made
    made_day = day_there widest_edition date 0 made front

    pub made_count : areas_of (file_made deficiency date areas) ≡ n
    unfolding file_made
    made_count = count_there widest_edition date 0 made front ∙ count

    module _ (k : ℕ) (below : k < n) where
      pub made_number : number_at (file_made deficiency date areas) k ≡ get_or areas k 0
      unfolding file_made
      made_number = number_there widest_edition date 0 made front k (omega (arith, count)) ∙ ap (λ a. a.number) (at areas k below)

      pub made_body_lem : body_at (file_made deficiency date areas) k ≡ made_body deficiency
      unfolding file_made
      made_body_lem =
          body_is widest_edition date 0 made front k (omega (arith, count)) (whole limits widest_edition date 0 made good (proved widest_edition))
          ∙ ap (λ a. a.body) (at areas k below)

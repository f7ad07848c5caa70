-- The file that is constructed with neighbours of the CISO area merged: it is accepted where the first is, and alike but for that.
use Prim.Native.Nat.{ℕ, zero, suc, ◌*◌, ◌<◌}
use mathlib.Core.List.{List, [], ◌∷◌, map}
use mathlib.Core.Logic.{dite}
use mathlib.Core.Path.{◌≡◌, refl, ap, ◌∙◌}
use native.Mathlib.Decide.{ℕ_discrete}
use native.Mathlib.Omega.{arith}
use lib.ListN.{length, drop, length-map}
use borrow.Author.Tests.{eq-eqb, ne_eqb}
use Rattle.limits.specs.declared.Limits.{Limits}
use Rattle.limits.specs.Editions.{limits_of}
use Rattle.limits.proofs.Editions.{proved}
use Rattle.verdict.specs.Verdict.{number_of}
use Rattle.body.specs.Layout.{kind_of}
use Rattle.body.specs.Kept.{Sound}
use Rattle.body.proofs.Kept.{always, sound_size}
use Rattle.contents.specs.File.{edition_of, day_of, peak_of, areas_of, number_at, start_at, size_at, body_at}
use Rattle.contents.specs.Parts.{Area, area_of, front_of, parts_of, area_at}
use Rattle.contents.proofs.Parts.{peak_there, count_there, number_there, body_is}
use Rattle.dayfile.specs.Check.{check_of, check_within}
use Rattle.dayfile.proofs.Facts.{within_limits}
use Rattle.acceptance.proofs.SoundAccepted.{file_sound}
use Rattle.words.specs.Bytes.{Below}
use Rattle.parts.specs.Good.{Good}
use Rattle.parts.proofs.GoodFile.{whole, small, file_accepted}
use Rattle.parts.proofs.OwnParts.{areas_count}
use Rattle.parts.proofs.OwnGood.{own_area, own_good, Replaced, replaced_good}
use Rattle.comparisons.specs.Merge.{Mergeable, MergedFile, merged_body, merged_area, merge}
use Rattle.comparisons.proofs.Joined.{below_front, below_back}
use Rattle.comparisons.proofs.MergeWords.{other_length, head_is, built}
use Rattle.comparisons.proofs.MergeSound.{merged_sound}

map_at : (f : Area → Area) (areas : List Area) (k : ℕ) → k < length areas → area_at (map f areas) k ≡ f (area_at areas k)
map_at f [] k h = absurd (omega arith)
map_at f (area ∷ areas) zero h = refl
map_at f (area ∷ areas) (suc k) h = map_at f areas k (omega arith)

module _ (i n number : ℕ) (area : Area) where
  area-merged : kind_of area.body ≡ 1 → merged_area i n number area ≡ record { number = area.number; body = merged_body i n number area.body }
  area-merged e = rw (eq-eqb (kind_of area.body) 1 e)

  area-kept : (kind_of area.body ≡ 1 → ⊥) → merged_area i n number area ≡ area
  area-kept e = rw (ne_eqb (kind_of area.body) 1 e)

module _ (i n number : ℕ) (file : List ℕ) (accepted : number_of (check_of file) ≡ 0) (bytes : Below 256 file)
    (mergeable : (k : ℕ) → k < areas_of file → kind_of (body_at file k) ≡ 1 → Mergeable i n number (body_at file k)) where
  -- the limits that the file's first word sets
  abbrev limits : Limits
  limits = limits_of (edition_of file)

  checked : number_of (check_within limits file) ≡ 0
  checked = within_limits file accepted

  abbrev others : List Area
  others = map (merged_area i n number) (parts_of file)

  body_bytes : (k : ℕ) → Below 256 (body_at file k)
  body_bytes k = below_front 256 (4 * size_at file k) (drop (4 * start_at file k) file) (below_back 256 (4 * start_at file k) file bytes)

  count-own : length (parts_of file) ≡ areas_of file
  count-own = areas_count limits file checked 0 (areas_of file)

  there : (k : ℕ) → k < areas_of file → area_at others k ≡ merged_area i n number (area_of file k)
  there k h = map_at (merged_area i n number) (parts_of file) k (omega (arith, h, count-own)) ∙ ap (merged_area i n number) (own_area file k h)

  module _ (k : ℕ) (below : k < areas_of file) where
    abbrev body : List ℕ
    body = body_at file k

    sound : Sound limits.points body
    sound = file_sound limits file checked k below

    replaced-ciso : kind_of body ≡ 1 → Replaced limits (area_of file k) (record { number = number_at file k; body = merged_body i n number body })
    replaced-ciso e =
        let g = mergeable k below e in
        let most = limits.points in
        let long = other_length most i n number body g sound (body_bytes k) in
        record {
          number = refl;
          kind = head_is most i n number body g sound (body_bytes k) 0 (omega arith);
          whole = omega (arith, long);
          least = omega (arith, long, (sound.points always).0, g.inside);
          not_longer = omega (arith, long, sound_size most body sound, g.some);
          sound = merged_sound most i n number body g sound (body_bytes k);
        }

    replaced-rest : Good limits (edition_of file) (day_of file) (peak_of file) (parts_of file) → Replaced limits (area_of file k) (area_of file k)
    replaced-rest good =
        let was = good.area k (omega (arith, count-own)) in
        let e = own_area file k below in
        record { number = refl; kind = refl; whole = rw e at was.whole; least = rw e at was.least; not_longer = omega arith; sound = sound }

  good : Good limits (edition_of file) (day_of file) (peak_of file) others
  good =
      let own = own_good limits file checked in
      replaced_good limits (edition_of file) (day_of file) (peak_of file) (parts_of file) others (length-map (parts_of file) (merged_area i n number))
      (λ k h. by own k (omega (arith, h, count-own))) own
    where
      by : Good limits (edition_of file) (day_of file) (peak_of file) (parts_of file) → (k : ℕ) → k < areas_of file
          → Replaced limits (area_at (parts_of file) k) (area_at others k)
      by own k h =
          rw (own_area file k h, there k h)
          (dite (ℕ_discrete (kind_of (body_at file k)) 1)
          (λ e. rw (area-merged i n number (area_of file k) e) (replaced-ciso k h e))
          (λ e. rw (area-kept i n number (area_of file k) e) (replaced-rest k h own)))

  abbrev front : Below 4294967296 (front_of (edition_of file) (day_of file) (peak_of file) others)
  front = small limits (edition_of file) (day_of file) (peak_of file) others good (proved (edition_of file))

  count-others : length others ≡ areas_of file
  count-others = length-map (parts_of file) (merged_area i n number) ∙ count-own

  peak-same : peak_of (merge i n number file) ≡ peak_of file
  unfolding merge
  peak-same = peak_there (edition_of file) (day_of file) (peak_of file) others front

  areas-same : areas_of (merge i n number file) ≡ areas_of file
  unfolding merge
  areas-same = count_there (edition_of file) (day_of file) (peak_of file) others front ∙ count-others

  number_same : (k : ℕ) → k < areas_of file → number_at (merge i n number file) k ≡ number_at file k
  unfolding merge
  number_same k h =
      number_there (edition_of file) (day_of file) (peak_of file) others front k (omega (arith, h, count-others)) ∙ ap (λ a. a.number) (there k h)

  body_there : (k : ℕ) → k < areas_of file → body_at (merge i n number file) k ≡ (merged_area i n number (area_of file k)).body
  unfolding merge
  body_there k h =
      body_is (edition_of file) (day_of file) (peak_of file) others front k (omega (arith, h, count-others))
      (whole limits (edition_of file) (day_of file) (peak_of file) others good (proved (edition_of file)))
      ∙ ap (λ a. a.body) (there k h)

  ciso-there : (k : ℕ) → k < areas_of file → kind_of (body_at file k) ≡ 1 → body_at (merge i n number file) k ≡ merged_body i n number (body_at file k)
  ciso-there k h e = body_there k h ∙ ap (λ a. a.body) (area-merged i n number (area_of file k) e)

  -- the file is accepted where the first is
  pub merge_accepted : number_of (check_of (merge i n number file)) ≡ 0
  unfolding merge
  merge_accepted = file_accepted (edition_of file) (day_of file) (peak_of file) others good

  -- and is the first file but that the neighbours are one
  pub merge_merges : MergedFile i n file (merge i n number file)
  merge_merges =
      record {
        peak = peak-same;
        areas = areas-same;
        number = number_same;
        ciso = λ k h e. rw (ciso-there k h e) (built limits.points i n number (body_at file k) (mergeable k h e) (sound k h) (body_bytes k));
        rest = λ k h e. body_there k h ∙ ap (λ a. a.body) (area-kept i n number (area_of file k) e);
      }

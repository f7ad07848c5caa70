-- The areas of a sound file: their coordinators, the numbers that they need, and their blocks.
use Prim.Native.Nat.{ℕ, zero, suc, ◌+◌, ◌*◌, ◌≤◌, ◌<◌}
use mathlib.Core.List.{List, ◌++◌}
use mathlib.Core.Path.{◌≡◌, refl, ◌∙◌}
use native.Mathlib.Decide.{le_ind}
use native.Mathlib.Nat.{le_refl, le_trans}
use native.Mathlib.Numerals.{add-one}
use native.Mathlib.Omega.{arith}
use lib.ListN.{length, length-append}
use Rattle.limits.specs.Ranges.{day_hours, most_coordinators}
use Rattle.body.specs.Layout.{coordinators_of}
use Rattle.body.proofs.Kept.{sound_size}
use Rattle.contents.specs.File.{areas_of, start_at, size_at, body_at}
use Rattle.statement.specs.Block.{area_numbers, block}
use Rattle.statement.proofs.Demands.{count_few}
use Rattle.statement.proofs.Hours.{hours_length}
use Rattle.settlement.specs.SoundFile.{SoundFile}
use Rattle.settlement.specs.Settlement.{needed_to, terms_at, statement_to}

module _ (file : List ℕ) where
  pub needed_more : (k : ℕ) → needed_to file (k + 1) ≡ needed_to file k + area_numbers (coordinators_of (body_at file k))
  unfolding needed_to
  needed_more k = rw (add-one k)

  pub needed_within : (k n : ℕ) → k < n → needed_to file k + area_numbers (coordinators_of (body_at file k)) ≤ needed_to file n
  unfolding needed_to
  needed_within k n h =
      le_ind (λ m. needed_to file k + area_numbers (coordinators_of (body_at file k)) ≤ needed_to file m) (le_refl _) (λ m _ p. le_trans p (omega arith)) n h

  pub statement_more : (days : ℕ → ℕ) (k : ℕ) → statement_to days file (k + 1)
      ≡ statement_to days file k ++ block (terms_at days file k) (body_at file k)
  unfolding statement_to
  statement_more days k = rw (add-one k)

  module _ (sound : SoundFile file) where
    module _ (k : ℕ) (below : k < areas_of file) where
      -- the entry and the body lie within the file
      pub placed : (16 + 12 * k + 12 ≤ length file) × (4 * start_at file k + 4 * size_at file k ≤ length file)
      placed = (omega (arith, sound.room, below), sound.inside k below)

      pub head_inside : 28 ≤ length (body_at file k)
      head_inside = omega (arith, sound_size _ _ (sound.body k below))

      pub area_few : coordinators_of (body_at file k) ≤ most_coordinators
      area_few = count_few (body_at file k) (sound.body k below)

    pub needed_small : (k : ℕ) → k ≤ areas_of file → needed_to file k ≤ area_numbers most_coordinators * k
    unfolding needed_to
    needed_small zero h = omega arith
    needed_small (suc k) h = omega (arith, needed_small k (omega arith), area_few k h)

    pub statement_length : (days : ℕ → ℕ) (k : ℕ) → k ≤ areas_of file → length (statement_to days file k) ≡ needed_to file k
    unfolding statement_to needed_to
    statement_length days zero h = refl
    statement_length days (suc k) h =
        length-append (statement_to days file k) (block (terms_at days file k) (body_at file k))
        ∙ omega (arith, statement_length days k (omega arith), hours_length (terms_at days file k) (body_at file k) (sound.body k h) day_hours (omega arith))

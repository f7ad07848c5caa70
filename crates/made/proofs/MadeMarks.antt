-- A body that is put together: the tier of its hours, and whether it is marked. A file for a day on which just the given areas are marked.
use Prim.Native.Nat.{ℕ, zero, suc, ◌+◌, ◌≤◌, ◌<◌}
use mathlib.Core.Bool.{true, false}
use mathlib.Core.List.{List, [], ◌∷◌}
use mathlib.Core.Path.{◌≡◌, refl}
use native.Mathlib.Omega.{arith}
use lib.ListN.{length, get_or}
use Rattle.limits.specs.Ranges.{most_deficiency, largest_number}
use Rattle.calendar.specs.Date.{real_date}
use Rattle.verdict.specs.Verdict.{number_of}
use Rattle.body.specs.Layout.{hour_at, requirement_at}
use Rattle.contents.specs.File.{day_of}
use Rattle.dayfile.specs.Check.{check_of}
use Rattle.surcharge.specs.Surcharge.{tier_of}
use Rattle.amounts.specs.Amounts.{upward_from, upward_at, tier_at}
use Rattle.marking.specs.Marked.{marked_in, marked_areas}
use Rattle.marking.proofs.MarkedAreas.{marked_so, not_marked, all_marked, none_marked}
use Rattle.made.specs.Made.{made_body, failing_body, quiet_body, file_marking, quiet_file, entry_file, shortage, FileAreas}
use Rattle.made.proofs.MadeBody.{flag_there, first_there, zero_there, hour_there}
use Rattle.made.proofs.MadeFile.{made_accepted, made_day, made_count, made_number, made_body_lem}

-- ---- the hours

module _ (deficiency : ℕ) (small : deficiency ≤ most_deficiency) where
  abbrev body : List ℕ
  body = made_body deficiency

  upward-first : upward_at body 0 ≡ deficiency
  unfolding upward_from
  upward-first =
      rw (hour_there deficiency small 0)
      (omega (
        arith,
        first_there deficiency small,
        zero_there deficiency small 9 (omega arith),
        zero_there deficiency small 10 (omega arith),
        zero_there deficiency small 11 (omega arith),
      ))

  upward-later : (h : ℕ) → 1 ≤ h → upward_at body h ≡ 0
  unfolding upward_from
  upward-later h p =
      let at = hour_there deficiency small h in
      omega (
        arith,
        zero_there deficiency small (hour_at body h) (omega arith),
        zero_there deficiency small (hour_at body h + 1) (omega arith),
        zero_there deficiency small (hour_at body h + 2) (omega arith),
        zero_there deficiency small (hour_at body h + 3) (omega arith),
      )

  requirement-there : (h : ℕ) → requirement_at body h ≡ 0
  requirement-there h = zero_there deficiency small (hour_at body h + 6) (omega (arith, hour_there deficiency small h))

  tier-first : tier_at body 0 ≡ tier_of deficiency 0
  unfolding tier_at
  tier-first = rw (upward-first, requirement-there 0)

  tier-later : (h : ℕ) → 1 ≤ h → tier_at body h ≡ 0
  unfolding tier_at
  tier-later h p = rw (upward-later h p)

-- ---- the bodies

failing_tier : tier_at failing_body 0 ≡ 3
failing_tier = tier-first shortage (omega arith)

failing_marked : marked_in failing_body ≡ true
failing_marked =
    marked_so failing_body (record { flag = flag_there shortage (omega arith); hour = 0; inside = omega arith; tier = omega (arith, failing_tier) })

quiet_tier : (h : ℕ) → tier_at quiet_body h ≡ 0
quiet_tier zero = tier-first 0 (omega arith)
quiet_tier (suc h) = tier-later 0 (omega arith) (suc h) (omega arith)

quiet_unmarked : marked_in quiet_body ≡ false
quiet_unmarked = not_marked quiet_body (λ h p. omega (arith, quiet_tier h))

-- ---- the files

abbrev only : List ℕ
only = 1 ∷ []

one_area : FileAreas only
one_area = record { few = omega arith; rising = (omega arith, tt); small = record { each = by } }
  where
    by : (i : ℕ) → i < length only → get_or only i 0 < largest_number + 1
    by zero h = omega arith
    by (suc i) h = absurd (omega arith)

module _ (date : ℕ) (real : real_date date ≡ true) where
  marking-marks : (areas : List ℕ) → 1 ≤ length areas → FileAreas areas → marked_areas (file_marking date areas) ≡ areas
  marking-marks areas some may =
      let d : shortage ≤ most_deficiency = omega arith in
      rw (made_count shortage d date real areas some may)
      (all_marked (file_marking date areas) areas 0 (length areas) (omega arith)
      (λ j h. rw (made_body_lem shortage d date real areas some may j h) failing_marked)
      (λ j h. made_number shortage d date real areas some may j h))

  quiet-marks : marked_areas (quiet_file date) ≡ []
  quiet-marks =
      let d : 0 ≤ most_deficiency = omega arith in
      rw (made_count 0 d date real only (omega arith) one_area)
      (none_marked (quiet_file date) 0 1 1 refl
      (λ j h. rw (made_body_lem 0 d date real only (omega arith) one_area j h) quiet_unmarked))

  -- of a real date and areas that a file may have, the check accepts the file, it is of that date, and just these areas are marked in it
  pub entry_accepted : (areas : List ℕ) → FileAreas areas → number_of (check_of (entry_file date areas)) ≡ 0
  unfolding entry_file
  entry_accepted [] may = made_accepted 0 (omega arith) date real only (omega arith) one_area
  entry_accepted (a ∷ areas) may = made_accepted shortage (omega arith) date real (a ∷ areas) (omega arith) may

  pub entry_day : (areas : List ℕ) → FileAreas areas → day_of (entry_file date areas) ≡ date
  unfolding entry_file
  entry_day [] may = made_day 0 (omega arith) date real only (omega arith) one_area
  entry_day (a ∷ areas) may = made_day shortage (omega arith) date real (a ∷ areas) (omega arith) may

  pub entry_marks : (areas : List ℕ) → FileAreas areas → marked_areas (entry_file date areas) ≡ areas
  unfolding entry_file
  entry_marks [] may = quiet-marks
  entry_marks (a ∷ areas) may = marking-marks (a ∷ areas) (omega arith) may

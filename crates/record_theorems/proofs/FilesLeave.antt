-- What accepted day files leave: the record of the areas that their entries leave, on the day of the last one; and that it may be left.
use Prim.Native.Nat.{ℕ, zero, suc, ◌+◌, ◌-◌, ◌<◌, ◌≤◌}
use mathlib.Core.Bool.{Bool, true, false, cond}
use mathlib.Core.List.{List, [], ◌∷◌}
use mathlib.Core.Logic.{inl, inr, dite}
use mathlib.Core.Path.{◌≡◌, refl, sym, ap, subst, ◌∙◌}
use native.Mathlib.Decide.{dec_lt, ℕ_discrete}
use native.Mathlib.Omega.{arith}
use Rattle.limits.specs.Ranges.{largest_number}
use Rattle.limits.specs.Editions.{limits_of}
use Rattle.limits.specs.declared.Limits.{Limits}
use Rattle.calendar.specs.Date.{real_date}
use Rattle.calendar.specs.DayNumber.{day_number}
use Rattle.calendar.proofs.DayNumber.{rising}
use Rattle.verdict.specs.Verdict.{number_of}
use Rattle.contents.specs.File.{edition_of, day_of, areas_of, number_at, body_at, number_before}
use Rattle.dayfile.specs.Check.{check_of}
use Rattle.dayfile.proofs.Facts.{within_limits, file_head, file_entry}
use Rattle.marks.specs.Marks.{aged}
use Rattle.recording.specs.declared.Place.{Place}
use Rattle.recording.specs.declared.Record.{Record}
use Rattle.recording.specs.Record.{entries, record_of, kept, marked, marked_all}
use Rattle.recording.proofs.Lists.{kept_out, kept_in}
use Rattle.recording.proofs.InPlace.{entries_of_lem, listed_of, marked_below, marked_same, marked_above}
use Rattle.record_check.proofs.Left.{record_before}
use Rattle.marking.specs.Marked.{marked_in, marked_from, marked_areas}
use Rattle.made.specs.Made.{RisingNumbers}
use Rattle.entering.specs.Enter.{held_then}
use Rattle.entering.proofs.Entry.{entry_says, entry_leaves}
use Rattle.record_theorems.specs.Entries.{last_of, held_after, Rising, Before, InOrder}
use Rattle.record_theorems.specs.Left.{Left, AreasKnown, MayBeLeft, Fitting}
use Rattle.record_theorems.specs.Files.{after_files, AllEntered, last_day, entries_of}
use Rattle.record_theorems.proofs.EntriesLaws.{rising_kept, rising_marked}
use Rattle.record_theorems.proofs.LeftByEntries.{numbers_from, left_by_entries}
use Rattle.record_theorems.proofs.Passed.{Passes}

-- ---- the marked areas of an accepted file

abbrev NumbersKnown : List ℕ → Type 0
NumbersKnown [] = Unit {0}
NumbersKnown (a ∷ areas) = (a ≤ largest_number) × NumbersKnown areas

rising_if : (t : Bool) (low a : ℕ) (areas : List ℕ) → low ≤ a → RisingNumbers (a + 1) areas → RisingNumbers low (cond t (a ∷ areas) areas)
rising_if true low a areas h r = (h, r)
rising_if false low a areas h r = numbers_from low (a + 1) areas (omega arith) r

known_if : (t : Bool) (a : ℕ) (areas : List ℕ) → a ≤ largest_number → NumbersKnown areas → NumbersKnown (cond t (a ∷ areas) areas)
known_if true a areas h s = (h, s)
known_if false a areas h s = s

before_next : (file : List ℕ) (k : ℕ) → number_before file (suc k) ≡ number_at file k
unfolding number_before
before_next file k = refl

module _ (file : List ℕ) (accepted : number_of (check_of file) ≡ 0) where
  abbrev limits : Limits
  limits = limits_of (edition_of file)

  pub day_real : real_date (day_of file) ≡ true
  day_real = (file_head limits file (within_limits file accepted)).real

  rising-file : (low k m : ℕ) → k + m ≡ areas_of file → (k < areas_of file → low ≤ number_at file k) → RisingNumbers low (marked_from file k m)
  unfolding marked_from
  rising-file low k zero e h = tt
  rising-file low k (suc m) e h =
      rising_if (marked_in (body_at file k)) low (number_at file k) (marked_from file (suc k) m) (h (omega arith))
      (rising-file (number_at file k + 1) (suc k) m (omega arith)
      (λ p. omega (arith, (file_entry limits file (within_limits file accepted) (suc k) p).rising, before_next file k)))

  known-file : (k m : ℕ) → k + m ≡ areas_of file → NumbersKnown (marked_from file k m)
  unfolding marked_from
  known-file k zero e = tt
  known-file k (suc m) e =
      known_if (marked_in (body_at file k)) (number_at file k) (marked_from file (suc k) m)
      (file_entry limits file (within_limits file accepted) k (omega arith)).small
      (known-file (suc k) m (omega arith))

  marked-rising : RisingNumbers 1 (marked_areas file)
  marked-rising = rising-file 1 0 (areas_of file) (omega arith) (λ p. omega (arith, (file_entry limits file (within_limits file accepted) 0 p).rising))

  marked-known : NumbersKnown (marked_areas file)
  marked-known = known-file 0 (areas_of file) (omega arith)

-- ---- the areas held

known_kept : (g : ℕ) (l : List Place) → AreasKnown l → AreasKnown (kept g l)
unfolding kept
known_kept g [] s = tt
known_kept g (p ∷ l) s =
    dite (ℕ_discrete (aged p.marks g) 0)
    (λ e. rw (kept_out g p l e) (known_kept g l s.1))
    (λ e. rw (kept_in g p l e) (s.0, known_kept g l s.1))

known_marked : (a : ℕ) (l : List Place) → a ≤ largest_number → AreasKnown l → AreasKnown (marked a l)
unfolding marked
known_marked a [] h s = (h, tt)
known_marked a (p ∷ l) h s =
    dite (dec_lt p.area a)
    (λ b. rw (marked_below a p l b) (s.0, known_marked a l h s.1))
    (λ b. dite (ℕ_discrete p.area a)
    (λ e. rw (marked_same a p l e) (h, s.1))
    (λ e. let above : a < p.area = omega (arith, b, e) in rw (marked_above a p l above) (h, s)))

known_all : (areas : List ℕ) (l : List Place) → NumbersKnown areas → AreasKnown l → AreasKnown (marked_all areas l)
unfolding marked_all
known_all [] l n s = s
known_all (a ∷ areas) l n s = known_all areas (marked a l) n.1 (known_marked a l n.0 s)

one_all : (low : ℕ) (areas : List ℕ) (l : List Place) → 1 ≤ low → RisingNumbers low areas → Rising 1 l → Rising 1 (marked_all areas l)
unfolding marked_all
one_all low [] l h r s = s
one_all low (a ∷ areas) l h r s = one_all (a + 1) areas (marked a l) (omega arith) r.1 (rising_marked a 1 l s (omega (arith, r.0)))

-- ---- the files

pub last_number : (files : List (List ℕ)) → day_number (last_day files) ≡ last_of (entries_of files)
unfolding entries_of last_of day_number
last_number [] = refl
last_number (file ∷ files) = refl

-- what is held after one file more
held_next : (r : Record) (file : List ℕ) (files : List (List ℕ)) → r ≡ record_of (last_day files) (held_after (entries_of files))
    → held_then r file ≡ held_after (entries_of (file ∷ files))
unfolding entries_of held_after
held_next r file files is =
    ap (heldThen' file) is
    ∙ ap (λ l. marked_all (marked_areas file) (kept (day_number (day_of file) - day_number (last_day files)) l))
    (entries_of_lem (last_day files) (held_after (entries_of files)))
    ∙ ap (λ n. marked_all (marked_areas file) (kept (day_number (day_of file) - n) (held_after (entries_of files)))) (last_number files)
  where
    heldThen' : List ℕ → Record → List Place
    heldThen' file r = held_then r file

pub record FilesLeave (files : List (List ℕ)) : Type 0 where
  pub is : after_files files ≡ record_of (last_day files) (held_after (entries_of files))
  pub order : InOrder (entries_of files)
  pub fitting : Fitting (entries_of files)
  pub one : Rising 1 (held_after (entries_of files))
  pub known : AreasKnown (held_after (entries_of files))

before : (files : List (List ℕ)) (date : ℕ) → AllEntered files → last_day files < date → Before (entries_of files) (day_number date)
unfolding entries_of
before [] date a h = tt
before (file ∷ files) date a h = rising (day_of file) date (day_real file (entry_says (after_files files) file a.0).checked) h

pub files_leave : (files : List (List ℕ)) → AllEntered files → FilesLeave files
unfolding entries_of held_after after_files
files_leave [] a = record { is = refl; order = tt; fitting = tt; one = tt; known = tt }
files_leave (file ∷ files) a =
    let k = files_leave files a.1 in
    let r = after_files files in
    let t = entry_says r file a.0 in
    let rises = marked-rising file t.checked in
    let next = held_next r file files k.is in
    let g = day_number (day_of file) - last_of (entries_of files) in
    record {
      is = entry_leaves r file a.0 ∙ ap (record_of (day_of file)) next;
      order = (
        numbers_from 0 1 (marked_areas file) (omega arith) rises,
        before files (day_of file) a.1 (rw k.is at (record_before r (day_of file) t.judged).after),
        k.order,
      );
      fitting = (rw next at t.few, k.fitting);
      one = one_all 1 (marked_areas file) _ (omega arith) rises (rising_kept g 1 (held_after (entries_of files)) k.one);
      known = known_all (marked_areas file) _ (marked-known file t.checked) (known_kept g (held_after (entries_of files)) k.known);
    }

-- what accepted files leave may be left
files_may : (file : List ℕ) (files : List (List ℕ)) → AllEntered (file ∷ files) → MayBeLeft (day_of file) (held_after (entries_of (file ∷ files)))
files_may file files a =
    let all = file ∷ files in
    let k = files_leave all a in
    record {
      real = day_real file (entry_says (after_files files) file a.0).checked;
      left = subst (λ d. Left d (held_after (entries_of all))) (sym (last_number all)) (left_by_entries (entries_of all) k.order k.fitting);
      from_one = k.one;
      known = k.known;
    }

pub files_pass : (files : List (List ℕ)) → AllEntered files → Passes (after_files files)
unfolding after_files
files_pass [] a = inl refl
files_pass (file ∷ files) a =
    let all = file ∷ files in
    let k = files_leave all a in
    let day : (after_files all).last ≡ day_of file = ap (λ r. r.last) k.is in
    let held : entries (after_files all) ≡ held_after (entries_of all) = ap entries k.is ∙ entries_of_lem (day_of file) (held_after (entries_of all)) in
    inr (listed_of (after_files all) (day_of file) (held_after (entries_of all)) k.is, rw (day, held) (files_may file files a))

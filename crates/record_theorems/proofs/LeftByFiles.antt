-- A list of areas that may be left on a date is left by day files that are entered one after the other, each of them accepted.
use Prim.Native.Nat.{ℕ, zero, suc, ◌+◌, ◌-◌, ◌<◌, ◌≤◌, min}
use mathlib.Core.Bool.{true}
use mathlib.Core.List.{List, [], ◌∷◌}
use mathlib.Core.Logic.{dite}
use mathlib.Core.Path.{◌≡◌, refl, sym, ap, ap₂, ◌∙◌}
use native.Mathlib.Decide.{dec_lt, ℕ_discrete}
use native.Mathlib.Omega.{arith}
use lib.ListN.{length, get_or}
use borrow.Author.Tests.{lt-ltb}
use Rattle.words.specs.Bytes.{Below}
use Rattle.limits.specs.Ranges.{recorded_days, largest_number}
use Rattle.calendar.specs.Date.{real_date}
use Rattle.calendar.specs.DayNumber.{day_number}
use Rattle.calendar.proofs.DayNumber.{real_parts, not_falling, rising, date_of}
use Rattle.verdict.specs.Verdict.{number_of}
use Rattle.contents.specs.File.{day_of}
use Rattle.marks.specs.Marks.{bit_at}
use Rattle.recording.specs.declared.Place.{Place}
use Rattle.recording.specs.declared.Record.{Record}
use Rattle.recording.specs.Record.{record_of, kept, marked_all}
use Rattle.recording.proofs.InPlace.{entries_of_lem}
use Rattle.record_check.specs.Left.{record_left, record_rule}
use Rattle.made.specs.Made.{entry_file, FileAreas}
use Rattle.made.proofs.MadeMarks.{entry_accepted, entry_day, entry_marks}
use Rattle.entering.specs.Enter.{held_then}
use Rattle.entering.proofs.Entry.{EntryTaken, entry_so, entry_leaves}
use Rattle.record_theorems.specs.Entries.{Entry, last_of, held_after, Before, InOrder}
use Rattle.record_theorems.specs.Left.{AreasKnown, MayBeLeft, Fitting, areas_at, entries_for, last_entries}
use Rattle.record_theorems.specs.Files.{after_files, AllEntered}
use Rattle.record_theorems.proofs.LeftByEntries.{numbers_at_lem, at_set, at_clear, left_made}
use Rattle.record_theorems.proofs.Passed.{test_so}
use Rattle.record_theorems.proofs.FilesLeave.{files_pass}

-- ---- the areas that have a bit set

below_cons : (bound x : ℕ) (xs : List ℕ) → x < bound → Below bound xs → Below bound (x ∷ xs)
below_cons bound x xs a b = record { each = by }
  where
    by : (j : ℕ) → j < length (x ∷ xs) → get_or (x ∷ xs) j 0 < bound
    by zero h = a
    by (suc j) h = b.each j (omega arith)

module _ (i : ℕ) where
  few-at : (l : List Place) → length (areas_at i l) ≤ length l
  unfolding areas_at
  few-at [] = omega arith
  few-at (p ∷ l) =
      dite (ℕ_discrete (bit_at p.marks i) 1)
      (λ e. rw (at_set i p l e) (omega (arith, few-at l)))
      (λ e. rw (at_clear i p l e) (omega (arith, few-at l)))

  known_at : (l : List Place) → AreasKnown l → Below (largest_number + 1) (areas_at i l)
  unfolding areas_at
  known_at [] s = record { each = λ j h. absurd (omega arith) }
  known_at (p ∷ l) s =
      dite (ℕ_discrete (bit_at p.marks i) 1)
      (λ e. rw (at_set i p l e) (below_cons (largest_number + 1) p.area (areas_at i l) (omega (arith, s.0)) (known_at l s.1)))
      (λ e. rw (at_clear i p l e) (known_at l s.1))

-- ---- a file for an entry

record Dated (e : Entry) : Type 0 where
  date : ℕ
  real : real_date date ≡ true
  number : day_number date ≡ e.day
  may : FileAreas e.areas

abbrev AllDated : List Entry → Type 0
AllDated [] = Unit {0}
AllDated (e ∷ es) = Dated e × AllDated es

abbrev files_for : (es : List Entry) → AllDated es → List (List ℕ)
files_for [] d = []
files_for (e ∷ es) d = entry_file d.0.date e.areas ∷ files_for es d.1

abbrev last_date : (es : List Entry) → AllDated es → ℕ
last_date [] d = 0
last_date (e ∷ es) d = d.0.date

last_number : (es : List Entry) (d : AllDated es) → day_number (last_date es d) ≡ last_of es
unfolding last_of day_number
last_number [] d = refl
last_number (e ∷ es) d = d.0.number

later : (es : List Entry) (d : AllDated es) (date day : ℕ) → real_date date ≡ true → day_number date ≡ day → Before es day → last_date es d < date
later [] d date day real n b = omega (arith, (real_parts date real).from)
later (e ∷ es) d date day real n b =
    dite (dec_lt d.0.date date) (λ h. h) (λ h. absurd (omega (arith, not_falling date d.0.date (omega (arith, h)), d.0.number, n, b)))

-- ---- the files entered

held_next : (e : Entry) (es : List Entry) → held_after (e ∷ es) ≡ marked_all e.areas (kept (e.day - last_of es) (held_after es))
unfolding held_after
held_next e es = refl

-- one file more
next_held : (e : Entry) (es : List Entry) (d : AllDated (e ∷ es)) (r : Record) → r ≡ record_of (last_date es d.1) (held_after es)
    → held_then r (entry_file d.0.date e.areas) ≡ held_after (e ∷ es)
next_held e es d r is =
    let date = d.0.date in
    rw (is, entry_day date d.0.real e.areas d.0.may, entry_marks date d.0.real e.areas d.0.may)
    (ap (λ l. marked_all e.areas (kept (day_number date - day_number (last_date es d.1)) l)) (entries_of_lem (last_date es d.1) (held_after es))
    ∙ ap₂ (λ m n. marked_all e.areas (kept (m - n) (held_after es))) d.0.number (last_number es d.1) ∙ sym (held_next e es))

judged_so : (r : Record) (date : ℕ) → record_left r ≡ true → r.last < date → number_of (record_rule r date) ≡ 0
unfolding record_rule
judged_so r date t h = rw (t, lt-ltb r.last date h)

record Entered (es : List Entry) (d : AllDated es) : Type 0 where
  accepted : AllEntered (files_for es d)
  leave : after_files (files_for es d) ≡ record_of (last_date es d) (held_after es)

files_entered : (es : List Entry) (d : AllDated es) → InOrder es → Fitting es → Entered es d
unfolding after_files held_after
files_entered [] d o f = record { accepted = tt; leave = refl }
files_entered (e ∷ es) d o f =
    let date = d.0.date in
    let file = entry_file date e.areas in
    let rest = files_entered es d.1 o.2 f.1 in
    let r = after_files (files_for es d.1) in
    let day = entry_day date d.0.real e.areas d.0.may in
    let held = next_held e es d r rest.leave in
    let after : r.last < day_of file = rw (rest.leave, day) (later es d.1 date e.day d.0.real d.0.number o.1) in
    let taken : EntryTaken r file =
    record {
      checked = entry_accepted date d.0.real e.areas d.0.may;
      judged = judged_so r (day_of file) (test_so r (files_pass (files_for es d.1) rest.accepted)) after;
      few = rw held f.0;
    } in
    let z = entry_so r file taken in
    record { accepted = (z, rest.accepted); leave = entry_leaves r file z ∙ ap₂ record_of day held }

-- ---- the entries that a list speaks of

module _ (last : ℕ) (l : List Place) (may : MayBeLeft last l) where
  abbrev day : ℕ
  day = day_number last

  dated : (i : ℕ) → Dated (record { day = day - i; areas = areas_at i l })
  dated i =
      let there = date_of (last + 1) (day - i) (omega (arith, rising last (last + 1) may.real (omega arith))) in
      record {
        date = there.0;
        real = there.1.1;
        number = there.1.2;
        may = record { few = omega (arith, few-at i l, may.left.few); rising = numbers_at_lem i 1 l may.from_one; small = known_at i l may.known };
      }

  all-dated : (i n : ℕ) → AllDated (entries_for day l i n)
  unfolding entries_for
  all-dated i zero = tt
  all-dated i (suc n) = (dated i, all-dated (suc i) n)

  one-date : (date : ℕ) → real_date date ≡ true → day_number date ≡ day → date ≡ last
  one-date date t n =
      dite (dec_lt date last)
      (λ h. absurd (omega (arith, rising date last t h)))
      (λ h. dite (dec_lt last date) (λ k. absurd (omega (arith, rising last date may.real k))) (λ k. omega (arith, h, k)))

  last-is : (n : ℕ) → last_date (entries_for day l 0 (suc n)) (all-dated 0 (suc n)) ≡ last
  unfolding entries_for all-dated
  last-is n = one-date (dated 0).date (dated 0).real ((dated 0).number ∙ omega arith)

  pub left_by_files : (files : List (List ℕ)) × (AllEntered files × (after_files files ≡ record_of last l))
  left_by_files =
      let n = min (recorded_days - 1) day in
      let es = last_entries day l in
      let d = all-dated 0 (suc n) in
      let known = left_made day l may.left in
      let e = files_entered es d known.0 known.1 in
      (files_for es d, (e.accepted, e.leave ∙ ap₂ record_of (last-is n) known.3))

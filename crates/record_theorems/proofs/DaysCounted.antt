-- The d that settlement with the record uses is the number of days, among the thirty before the trading day, on which the list of accepted
-- entries has a file that marks the area.
use Prim.Native.Nat.{ℕ, zero, suc, ◌+◌, ◌-◌, ◌<◌, ◌≤◌}
use mathlib.Core.List.{List, [], ◌∷◌}
use mathlib.Core.Logic.{dite}
use mathlib.Core.Path.{◌≡◌, refl, sym, ap, subst, ◌∙◌}
use native.Mathlib.Decide.{dec_lt, ℕ_discrete}
use native.Mathlib.Nat.{add-zero}
use native.Mathlib.Omega.{arith}
use borrow.Author.Tests.{le-leb, lt-leb}
use Rattle.limits.specs.Ranges.{recorded_days}
use Rattle.calendar.specs.DayNumber.{day_number}
use Rattle.calendar.proofs.DayNumber.{rising}
use Rattle.contents.specs.File.{day_of}
use Rattle.marks.specs.Marks.{counted}
use Rattle.marks.proofs.Bits.{bits_none}
use Rattle.recording.specs.Record.{marks_of}
use Rattle.recording.proofs.InPlace.{entries_of_lem}
use Rattle.record_check.specs.Left.{days_between}
use Rattle.entering.proofs.Entry.{entry_says}
use Rattle.recorded.specs.Recorded.{record_days}
use Rattle.record_theorems.specs.Entries.{Entry, held_after, marked_on, marked_days, InOrder}
use Rattle.record_theorems.specs.Files.{after_files, AllEntered, last_day, MarkedBefore, entries_of, Counts}
use Rattle.record_theorems.specs.Files.Counts.{none, with_it, without}
use Rattle.record_theorems.proofs.EntriesLaws.{one_most, d_is}
use Rattle.record_theorems.proofs.EntriesSay.{on_here, on_past, on_says, on_so}
use Rattle.record_theorems.proofs.FilesLeave.{files_leave, day_real, last_number}

on_most : (es : List Entry) (day area : ℕ) → marked_on es day area ≤ 1
unfolding marked_on
on_most [] day area = omega arith
on_most (e ∷ es) day area =
    dite (ℕ_discrete e.day day)
    (λ h. rw (on_here day area e es h) (one_most area e.areas))
    (λ h. rw (on_past day area e es h) (on_most es day area))

module _ (files : List (List ℕ)) (order : InOrder (entries_of files)) (day area : ℕ) where
  counts : (n : ℕ) → Counts (λ i. MarkedBefore files day area (suc i)) n (marked_days (entries_of files) day area n)
  unfolding marked_days
  counts zero = none
  counts (suc n) =
      let rest = counts n in
      let so_far = marked_days (entries_of files) day area n in
      dite (dec_lt day (suc n))
      (λ h. rw (lt-leb (suc n) day h, add-zero so_far) (without {n = n} (λ m. omega (arith, h, m.apart)) rest))
      (λ h.
      let on = day - suc n in
      let apart : on + suc n ≡ day = omega (arith, h) in
      rw (le-leb (suc n) day (omega (arith, h)))
      (dite (ℕ_discrete (marked_on (entries_of files) on area) 1)
      (λ e. rw e (with_it (record { on = on; apart = apart; by = on_says on area files e }) rest))
      (λ e.
      let z : marked_on (entries_of files) on area ≡ 0 = omega (arith, e, on_most (entries_of files) on area) in
      rw (z, add-zero so_far)
      (without {n = n} (λ m. let same : m.on ≡ on = omega (arith, m.apart) in e (rw same at (on_so m.on area files order m.by))) rest))))

-- no file, no marked day
none_marked : (day area n : ℕ) → marked_days [] day area n ≡ 0
unfolding marked_days marked_on
none_marked day area zero = refl
none_marked day area (suc n) =
    let rest = none_marked day area n in
    dite (dec_lt day (suc n)) (λ h. rw (lt-leb (suc n) day h) (omega arith)) (λ h. rw (le-leb (suc n) day (omega (arith, h))) (omega arith))

module _ (date area : ℕ) (body : List ℕ) where
  counted_is : (files : List (List ℕ)) → AllEntered files → last_day files < date
      → marked_days (entries_of files) (day_number date) area recorded_days ≡ record_days (after_files files) date area body
  unfolding entries_of after_files marks_of
  counted_is [] a h = none_marked (day_number date) area recorded_days ∙ sym (bits_none (recorded_days + 1 - days_between (after_files []) date))
  counted_is (file ∷ files) a h =
      let all = file ∷ files in
      let left = files_leave all a in
      let n = last_number all in
      let later = rising (day_of file) date (day_real file (entry_says (after_files files) file a.0).checked) h in
      sym (d_is area (entries_of all) (day_number date) left.order (omega (arith, n, later)))
      ∙ ap (λ g. counted (marks_of area (held_after (entries_of all))) (day_number date - g)) (sym n)
      ∙ rw left.is (ap (λ l. counted (marks_of area l) (day_number date - day_number (last_day all)))
      (sym (entries_of_lem (last_day all) (held_after (entries_of all)))))

pub days_counted : (files : List (List ℕ)) → AllEntered files → (date area : ℕ) (body : List ℕ) → last_day files < date
    → Counts (λ i. MarkedBefore files (day_number date) area (suc i)) recorded_days (record_days (after_files files) date area body)
days_counted files a date area body h =
    subst (Counts (λ i. MarkedBefore files (day_number date) area (suc i)) recorded_days) (counted_is date area body files a h)
    (counts files (files_leave files a).order (day_number date) area recorded_days)

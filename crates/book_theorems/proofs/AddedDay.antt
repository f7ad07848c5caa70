-- What stands in the room once a day is added.
use Prim.Native.Nat.{ℕ, ◌+◌, ◌*◌, ◌≤◌}
use mathlib.Core.Path.{◌≡◌, refl, sym, ap, ◌∙◌}
use mathlib.Core.List.{List, ◌++◌}
use native.Mathlib.Omega.{arith}
use borrow.Author.Tests.{eq-eqb}
use lib.ListN.{length, drop}
use Rattle.calendar.proofs.DayNumber.{real_parts}
use Rattle.verdict.specs.Verdict.{number_of}
use Rattle.dayfile.proofs.Facts.{within_limits, file_length, file_head}
use Rattle.book.specs.Days.{Day, book_bytes, book_of}
use Rattle.book.specs.Read.{count_of, end_of, days_of}
use Rattle.book.specs.Check.{most_book_days, book_rule}
use Rattle.book.specs.Sound.{Sound}
use Rattle.book.proofs.Kept.{sound_book}
use Rattle.keeping_moves.specs.Moves.{day_of_file}
use Rattle.keeping.specs.Keeping.{insert_day, add_rule, with_day}
use Rattle.keeping.proofs.Rules.{add_book, add_file, add_taken}
use Rattle.book_theorems.specs.ByDays.{Added}
use Rattle.book_theorems.proofs.Good.{KeptDay, KeptDays, GoodDays}
use Rattle.book_theorems.proofs.ReadBack.{days_again, sound_again, first_again}
use Rattle.book_theorems.proofs.Judged.{kept_days, book_accepted}
use Rattle.book_theorems.proofs.Lists.{inserted_count, inserted_files, inserted_kept}
use Rattle.book_theorems.proofs.Ends.{book_long, count_is, end_is, good_within, book_is, stands_long, behind_book}

module _ (room file : List ℕ) (accepted : number_of (add_rule room file) ≡ 0) where
  pub sound : Sound room
  sound = sound_book room (add_book room file accepted)

  -- the new day is one that a book can hold
  new-day : KeptDay 0 (day_of_file file)
  new-day =
      let z = within_limits file (add_file room file accepted) in
      let real = (file_head _ file z).real in
      let parts = real_parts _ real in
      let l = file_length _ file z in
      record { real = real; above = omega arith; long = omega arith; whole = omega arith; dated = refl }

  abbrev pub new : List Day
  new = insert_day (day_of_file file) (days_of room)

  pub new_kept : KeptDays 0 new
  new_kept =
      inserted_kept (day_of_file file) 0 (days_of room) new-day (add_taken room file accepted).absent (kept_days room sound (add_book room file accepted))

  new-count : length new ≡ count_of room + 1
  new-count = omega (arith, inserted_count (day_of_file file) (days_of room), count_is room sound)

  pub new_long : length (book_bytes new) ≡ 4 * end_of room + 12 + length file
  new_long =
      omega (arith, book_long new, new-count, inserted_files (day_of_file file) (days_of room), end_is room sound, book_long (days_of room), count_is room sound)

  pub new_fits : length (book_bytes new) ≤ length room
  new_fits = let t = add_taken room file accepted in omega (arith, new_long, new-day.whole, t.fits)

  pub new_good : GoodDays (2 + 3 * length new) new
  new_good =
      let t = add_taken room file accepted in
      good_within 0 (2 + 3 * length new) new (omega arith) new_kept (omega (arith, new_long, book_long new, new-day.whole, t.named))

  new-few : length new ≤ most_book_days
  new-few = omega (arith, new-count, (add_taken room file accepted).few)

  pub after_is : with_day room file ≡ book_of new room
  unfolding with_day
  after_is = rw (eq-eqb (number_of (add_rule room file)) 0 accepted)

  stands : with_day room file ≡ book_bytes new ++ drop (length (book_bytes new)) room
  stands = after_is ∙ book_is new room

  pub new_days : days_of (with_day room file) ≡ new
  new_days = days_again (with_day room file) (drop (length (book_bytes new)) room) new stands new-few new_good new_kept

  pub new_sound : Sound (with_day room file)
  new_sound = sound_again (with_day room file) (drop (length (book_bytes new)) room) new stands new-few new_good new_kept

  pub new_book : number_of (book_rule (with_day room file)) ≡ 0
  new_book =
      book_accepted (with_day room file) new_sound
      (first_again (with_day room file) (drop (length (book_bytes new)) room) new stands new-few new_good new_kept) (rw new_days new_kept)

  pub new_end : 4 * end_of (with_day room file) ≡ 4 * end_of room + 12 + length file
  new_end = end_is (with_day room file) new_sound ∙ ap (λ days. length (book_bytes days)) new_days ∙ new_long

  pub counted : count_of (with_day room file) ≡ count_of room + 1
  counted = sym (count_is (with_day room file) new_sound) ∙ ap length new_days ∙ new-count

  pub room_long : length (with_day room file) ≡ length room
  room_long = ap length after_is ∙ stands_long new room new_fits

  pub added_day : Added room file
  added_day =
      record {
        days = new_days;
        book = new_book;
        behind = ap (drop (4 * end_of room + 12 + length file)) after_is ∙ behind_book new room new_fits (4 * end_of room + 12 + length file)
            (omega (arith, new_long));
      }

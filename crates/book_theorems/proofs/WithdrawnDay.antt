-- What stands in the room once a day is withdrawn.
use Prim.Native.Nat.{ℕ, suc, ◌+◌, ◌*◌, ◌-◌, ◌≤◌}
use mathlib.Core.Bool.{true}
use mathlib.Core.Path.{◌≡◌, refl, sym, ap, ◌∙◌}
use mathlib.Core.List.{List, ◌++◌, append_assoc}
use native.Mathlib.Omega.{arith}
use borrow.Author.Tests.{eq-eqb}
use lib.ListN.{length, take, drop, replicate, length-append, length-replicate}
use lib.Seq.{drop_at, take_at}
use Rattle.words.specs.Bytes.{Below}
use Rattle.verdict.specs.Verdict.{number_of}
use Rattle.verdict.proofs.First.{kept, or_first, or_second}
use Rattle.book.specs.Days.{Day, book_bytes}
use Rattle.book.specs.Read.{count_of, due_at, end_of, days_of}
use Rattle.book.specs.Check.{most_book_days, book_rule}
use Rattle.book.specs.Sound.{Sound}
use Rattle.book.proofs.Places.{due_first}
use Rattle.book.proofs.Kept.{sound_book}
use Rattle.keeping.specs.Keeping.{is_there, remove_day, withdraw_rule, without_day}
use Rattle.keeping_moves.proofs.Withdrawn.{book_emptied}
use Rattle.book_theorems.specs.ByDays.{Withdrawn}
use Rattle.book_theorems.proofs.Good.{KeptDays, GoodDays}
use Rattle.book_theorems.proofs.ReadBack.{days_again, sound_again, first_again}
use Rattle.book_theorems.proofs.Judged.{kept_days, good_days, book_accepted}
use Rattle.book_theorems.proofs.Lists.{removed_kept, removed_good, removed_count, removed_files}
use Rattle.book_theorems.proofs.Ends.{book_long, count_is, end_is}

module _ (room : List ℕ) (date : ℕ) (accepted : number_of (withdraw_rule room date) ≡ 0) where
  pub book : number_of (book_rule room) ≡ 0
  unfolding withdraw_rule
  book = or_first _ _ accepted

  there : is_there date (days_of room) ≡ true
  unfolding withdraw_rule
  there = (kept (is_there date (days_of room)) _ _ (or_second (book_rule room) _ accepted)).0

  abbrev sound : Sound room
  sound = sound_book room book

  abbrev left : List Day
  left = remove_day date (days_of room)

  left-kept : KeptDays 0 left
  left-kept = removed_kept date 0 (days_of room) (kept_days room sound book)

  left-count : suc (length left) ≡ count_of room
  left-count = removed_count date (days_of room) there ∙ count_is room sound

  left-long : length (book_bytes left) ≤ 4 * end_of room
  left-long =
      omega (arith, book_long left, left-count, removed_files date (days_of room), end_is room sound, book_long (days_of room), count_is room sound)

  abbrev freed : ℕ
  freed = 4 * end_of room - length (book_bytes left)

  pub after_is : without_day room date ≡ book_bytes left ++ (replicate freed 0 ++ drop (4 * end_of room) room)
  unfolding without_day
  after_is = rw (eq-eqb (number_of (withdraw_rule room date)) 0 accepted) (book_emptied room left freed (omega (arith, left-long)))

  left-few : length left ≤ most_book_days
  left-few = omega (arith, left-count, sound.few)

  behind-zeros : drop (4 * end_of room) (without_day room date) ≡ drop (4 * end_of room) room
  behind-zeros =
      let n : length (book_bytes left ++ replicate freed 0) ≡ 4 * end_of room =
      length-append (book_bytes left) (replicate freed 0) ∙ omega (arith, length-replicate {A = ℕ} freed 0, left-long) in
      ap (drop (4 * end_of room)) (after_is ∙ sym (append_assoc (book_bytes left) (replicate freed 0) (drop (4 * end_of room) room)))
      ∙ drop_at (book_bytes left ++ replicate freed 0) (drop (4 * end_of room) room) (4 * end_of room) n

  zeros-there : (end : ℕ) → end ≡ length (book_bytes left) → take (4 * end_of room - end) (drop end (without_day room date)) ≡ replicate (4 * end_of room - end) 0
  zeros-there end e =
      rw (after_is, e, drop_at (book_bytes left) (replicate freed 0 ++ drop (4 * end_of room) room) (length (book_bytes left)) refl)
      (take_at (replicate freed 0) (drop (4 * end_of room) room) freed (length-replicate freed 0))

  module _ (good : GoodDays (due_at room 0) (days_of room)) where
    left-good : GoodDays (2 + 3 * length left) left
    left-good = removed_good date (2 + 3 * length left) (due_at room 0) (days_of room) (omega (arith, left-count, due_first room)) good

    pub left_days : days_of (without_day room date) ≡ left
    left_days = days_again (without_day room date) (replicate freed 0 ++ drop (4 * end_of room) room) left after_is left-few left-good left-kept

    left-sound : Sound (without_day room date)
    left-sound = sound_again (without_day room date) (replicate freed 0 ++ drop (4 * end_of room) room) left after_is left-few left-good left-kept

    left_end : 4 * end_of (without_day room date) ≡ length (book_bytes left)
    left_end = end_is (without_day room date) left-sound ∙ ap (λ days. length (book_bytes days)) left_days

    pub left_by : Withdrawn room date
    left_by =
        record {
          days = left_days;
          book =
              book_accepted (without_day room date) left-sound
              (first_again (without_day room date) (replicate freed 0 ++ drop (4 * end_of room) room) left after_is left-few left-good left-kept)
              (rw left_days left-kept);
          freed = zeros-there (4 * end_of (without_day room date)) left_end;
          behind = behind-zeros;
        }

pub withdrawn_day : (room : List ℕ) (date : ℕ) → Below 256 room → number_of (withdraw_rule room date) ≡ 0 → Withdrawn room date
withdrawn_day room date bytes accepted =
    left_by room date accepted (good_days room (sound_book room (book room date accepted)) (book room date accepted) bytes)

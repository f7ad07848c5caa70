-- Withdrawing what was just added gives back the same days, and the same words but for freed ones, which are 0.
use Prim.Native.Nat.{ℕ, ◌+◌, ◌*◌, ◌-◌}
use mathlib.Core.Bool.{true}
use mathlib.Core.Path.{◌≡◌, sym, ap, ◌∙◌}
use mathlib.Core.List.{List, ◌++◌, append_assoc}
use native.Mathlib.Omega.{arith}
use lib.ListN.{length, take, drop, replicate, length-replicate}
use Rattle.words.specs.Bytes.{Below}
use Rattle.verdict.specs.Verdict.{number_of}
use Rattle.verdict.proofs.First.{or_next}
use Rattle.contents.specs.File.{day_of}
use Rattle.moving.specs.Written.{written}
use Rattle.book.specs.Days.{book_bytes}
use Rattle.book.specs.Read.{due_at, end_of, days_of}
use Rattle.book.specs.Check.{book_rule}
use Rattle.book.proofs.Places.{due_first}
use Rattle.keeping_moves.specs.Moves.{day_of_file}
use Rattle.keeping.specs.Keeping.{is_there, remove_day, add_rule, with_day, withdraw_rule, without_day}
use Rattle.keeping.proofs.Rules.{add_book, add_taken}
use Rattle.book_theorems.specs.ByDays.{Back}
use Rattle.book_theorems.proofs.Good.{GoodDays}
use Rattle.book_theorems.proofs.Lists.{there_now, removed_again}
use Rattle.book_theorems.proofs.Ends.{count_is, end_is, behind_book, before_book}
use Rattle.book_theorems.proofs.Stands.{by_days}
use Rattle.book_theorems.proofs.AddedDay.{sound, new, new_long, new_fits, new_good, after_is, new_days, new_sound, new_book, new_end}
use Rattle.book_theorems.proofs.WithdrawnDay as withdrawn

-- the room of a longer book, and of the one before
rejoined : (room old zeros : List ℕ) (end new z : ℕ) → take end room ≡ old → length zeros ≡ z → end + z ≡ new
    → old ++ (zeros ++ drop new room) ≡ written room end zeros
unfolding written
rejoined room old zeros end new z front long e = rw (front, long, e) (sym (append_assoc old zeros (drop new room)))

module _ (room file : List ℕ) (accepted : number_of (add_rule room file) ≡ 0) where
  abbrev after : List ℕ
  after = with_day room file

  there : is_there (day_of file) (days_of after) ≡ true
  there = ap (is_there (day_of file)) (new_days room file accepted) ∙ there_now (day_of_file file) (days_of room)

  taken_back : number_of (withdraw_rule after (day_of file)) ≡ 0
  unfolding withdraw_rule
  taken_back = rw (or_next (book_rule after) _ (new_book room file accepted), there)

  good : GoodDays (due_at after 0) (days_of after)
  good =
      let n = sym (count_is after (new_sound room file accepted)) ∙ ap length (new_days room file accepted) in
      let e : due_at after 0 ≡ 2 + 3 * length (new room file accepted) = omega (arith, due_first after, n) in
      rw (e, new_days room file accepted) (new_good room file accepted)

  same-days : remove_day (day_of file) (days_of after) ≡ days_of room
  same-days =
      ap (remove_day (day_of file)) (new_days room file accepted) ∙ removed_again (day_of_file file) (days_of room) (add_taken room file accepted).absent

  freed : 4 * end_of after - length (book_bytes (remove_day (day_of file) (days_of after))) ≡ 12 + length file
  freed = rw same-days (omega (arith, new_end room file accepted, end_is room (sound room file accepted)))

  -- behind the longer book nothing had changed
  behind : drop (4 * end_of after) after ≡ drop (4 * end_of after) room
  behind =
      ap (drop (4 * end_of after)) (after_is room file accepted)
      ∙ behind_book (new room file accepted) room (new_fits room file accepted) (4 * end_of after)
      (omega (arith, new_long room file accepted, new_end room file accepted))

  old-front : Below 256 room → take (4 * end_of room) room ≡ book_bytes (days_of room)
  old-front bytes =
      let s = sound room file accepted in
      let e = end_is room s in
      let fits = s.inside in
      ap (take (4 * end_of room)) (by_days room bytes (add_book room file accepted))
      ∙ rw e (before_book (days_of room) room (omega arith))

  same-words : Below 256 room → without_day after (day_of file) ≡ written room (4 * end_of room) (replicate (12 + length file) 0)
  same-words bytes =
      withdrawn.after_is after (day_of file) taken_back
      ∙ rw (freed, behind, same-days)
      (rejoined room (book_bytes (days_of room)) (replicate (12 + length file) 0) (4 * end_of room) (4 * end_of after) (12 + length file) (old-front bytes)
      (length-replicate (12 + length file) 0) (omega (arith, new_end room file accepted)))

  pub withdrawn_again : Below 256 room → Back room file
  withdrawn_again bytes =
      record { accepted = taken_back; days = withdrawn.left_days after (day_of file) taken_back good ∙ same-days; words = same-words bytes }

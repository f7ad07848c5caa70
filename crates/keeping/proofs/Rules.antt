-- The rules of adding and withdrawing, by what the scans of the contents find.
use Prim.Native.Nat.{ℕ, zero, suc, ◌+◌, ◌/◌, ◌<◌, ◌≤◌}
use mathlib.Core.Bool.{Bool, true, false, cond, not, ◌&&◌, ◌||◌}
use mathlib.Core.Path.{◌≡◌, refl, sym, ap, ◌∙◌}
use mathlib.Core.List.{List}
use mathlib.Core.Logic.{dite}
use native.Mathlib.Decide.{dec_lt}
use native.Mathlib.Omega.{arith}
use borrow.Author.Tests.{lt-ltb, le-ltb, le-leb, leb-true, ltb-true, not-true}
use lib.Dec.{eqb, leb, ltb}
use lib.ListN.{length}
use Rattle.verdict.specs.Verdict.{number_of}
use Rattle.verdict.specs.First.{◌or_else◌}
use Rattle.verdict.proofs.First.{kept, both, or_next, or_first, or_second}
use Rattle.contents.specs.File.{day_of}
use Rattle.dayfile.specs.Check.{check_of}
use Rattle.dayfile.proofs.Facts.{within_limits, file_length}
use Rattle.book.specs.Sound.{Sound}
use Rattle.book.proofs.Kept.{sound_book}
use Rattle.book.specs.Read.{room_words, count_of, date_at, end_of, day_at, days_from, days_of}
use Rattle.book.specs.Check.{most_book_days, book_rule}
use Rattle.keeping_moves.specs.Moves.{most_book_words}
use Rattle.keeping.specs.Keeping.{is_there, day_rule, add_rule}
use Rattle.keeping_places.specs.Place.{before_first, same_date}

both_more : (a b : ℕ) → ltb a b ≡ ltb (suc a) (suc b)
both_more a b =
    dite (dec_lt a b) (λ h. lt-ltb a b h ∙ sym (lt-ltb (suc a) (suc b) (omega arith))) (λ h. le-ltb a b (omega (arith, h)) ∙ sym
    (le-ltb (suc a) (suc b) (omega (arith, h))))

-- a date is there exactly if the scan stops before the end
found : (room : List ℕ) (date k m : ℕ) → is_there date (days_from room k m) ≡ ltb (before_first room (same_date date) k m) m
unfolding is_there days_from before_first day_at
found room date k zero = refl
found room date k (suc m) = pick (eqb (date_at room k) date) (found room date (suc k) m)
  where
    pick : (b : Bool) → is_there date (days_from room (suc k) m) ≡ ltb (before_first room (same_date date) (suc k) m) m
        → (b || is_there date (days_from room (suc k) m)) ≡ ltb (cond b 0 (suc (before_first room (same_date date) (suc k) m))) (suc m)
    pick true h = sym (lt-ltb 0 (suc m) (omega arith))
    pick false h = h ∙ both_more (before_first room (same_date date) (suc k) m) m

module _ (room : List ℕ) (date : ℕ) where
  -- the place of its entry; the number of days where there is none
  abbrev pub missed : ℕ
  missed = before_first room (same_date date) 0 (count_of room)

  pub is_there_lem : missed < count_of room → is_there date (days_of room) ≡ true
  is_there_lem h = found room date 0 (count_of room) ∙ lt-ltb missed (count_of room) h

  pub is_absent : count_of room ≤ missed → is_there date (days_of room) ≡ false
  is_absent h = found room date 0 (count_of room) ∙ le-ltb missed (count_of room) h

  module _ (size : ℕ) where
    -- what an accepted day tells
    pub record Taken : Type 0 where
      pub absent : is_there date (days_of room) ≡ false
      pub few : count_of room < most_book_days
      pub fits : end_of room + 3 + size ≤ room_words room
      pub named : end_of room + 3 + size ≤ most_book_words

    pub day_kept : number_of (day_rule room date size) ≡ 0 → Taken
    unfolding day_rule
    day_kept z =
        let new = end_of room + 3 + size in
        let a = kept (not (is_there date (days_of room))) _ _ z in
        let b = kept (ltb (count_of room) most_book_days && leb new (room_words room) && leb new most_book_words) _ _ a.1 in
        let d = both (ltb (count_of room) most_book_days && leb new (room_words room)) _ b.0 in
        let e = both (ltb (count_of room) most_book_days) _ d.0 in
        record { absent = not-true _ a.0; few = ltb-true _ _ e.0; fits = leb-true _ _ e.1; named = leb-true _ _ d.1 }

    pub day_taken : Taken → number_of (day_rule room date size) ≡ 0
    unfolding day_rule
    day_taken t =
        rw (
          t.absent,
          lt-ltb (count_of room) most_book_days t.few,
          le-leb (end_of room + 3 + size) (room_words room) t.fits,
          le-leb (end_of room + 3 + size) most_book_words t.named,
        )

-- ---- the parts of each rule

pub file_long : (file : List ℕ) → number_of (check_of file) ≡ 0 → 16 ≤ length file
file_long file z = (file_length _ file (within_limits file z)).least

module _ (room file : List ℕ) where
  pub add_parts : add_rule room file ≡ (book_rule room or_else check_of file or_else day_rule room (day_of file) (length file / 4))
  unfolding add_rule
  add_parts = refl

  module _ (accepted : number_of (add_rule room file) ≡ 0) where
    opened : number_of (book_rule room or_else check_of file or_else day_rule room (day_of file) (length file / 4)) ≡ 0
    opened = ap number_of (sym add_parts) ∙ accepted

    pub add_book : number_of (book_rule room) ≡ 0
    add_book = or_first _ _ opened

    pub add_file : number_of (check_of file) ≡ 0
    add_file = or_first _ _ (or_second (book_rule room) _ opened)

    pub add_sound : Sound room
    add_sound = sound_book room add_book

    pub add_long : 16 ≤ length file
    add_long = file_long file add_file

    pub add_taken : Taken room (day_of file) (length file / 4)
    add_taken = day_kept room (day_of file) (length file / 4) (or_second (check_of file) _ (or_second (book_rule room) _ opened))

  pub add_accepts : number_of (book_rule room) ≡ 0 → number_of (check_of file) ≡ 0 → Taken room (day_of file) (length file / 4) → number_of (add_rule room file) ≡ 0
  add_accepts book checked taken =
      ap number_of (add_parts ∙ or_next (book_rule room) _ book ∙ or_next (check_of file) _ checked) ∙ day_taken room (day_of file) (length file / 4) taken

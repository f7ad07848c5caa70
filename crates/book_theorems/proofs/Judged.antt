-- A book is accepted exactly if it is sound and its days are days that a book can hold.
use Prim.Native.Nat.{ℕ, zero, suc, ◌+◌, ◌*◌, ◌≤◌, ◌<◌}
use mathlib.Core.Bool.{true}
use mathlib.Core.Path.{◌≡◌, refl, sym, ap, ◌∙◌}
use mathlib.Core.List.{List}
use mathlib.Core.Logic.{dite}
use native.Mathlib.Decide.{dec_lt}
use native.Mathlib.Omega.{arith}
use borrow.Author.Tests.{le-leb, lt-ltb, eq-eqb}
use Rattle.words.specs.Word.{word_at}
use Rattle.words.specs.Bytes.{Below}
use Rattle.words.proofs.Part.{word_part}
use Rattle.words.proofs.Words.{word_below}
use Rattle.calendar.specs.Date.{real_date}
use Rattle.calendar.proofs.DayNumber.{real_parts}
use Rattle.verdict.specs.Verdict.{number_of}
use Rattle.verdict.specs.First.{scan}
use Rattle.verdict.proofs.First.{or_next, all_accept}
use Rattle.contents.specs.File.{day_of}
use Rattle.book.specs.Days.{words_of}
use Rattle.book.specs.Read.{room_words, count_of, date_at, start_at, size_at, date_before, due_at, day_at, days_from, days_of}
use Rattle.book.specs.Check.{most_book_days, least_day_words, entry_rule_at, date_rule_at, book_rule}
use Rattle.book.specs.Sound.{Sound}
use Rattle.book.proofs.Places.{due_suc, due_within}
use Rattle.book.proofs.Kept.{entry_at, date_at_lem}
use Rattle.book.proofs.Runs.{date_is, file_long, words_are}
use Rattle.book_theorems.proofs.Good.{KeptDay, KeptDays, GoodDays}

pub real_small : (date : ℕ) → real_date date ≡ true → date < 4294967296
real_small date real = let p = real_parts date real in omega arith

module _ (room : List ℕ) (sound : Sound room) where
  -- word 1 of a day's file
  day-word : (k : ℕ) → k < count_of room → day_of (day_at room k).file ≡ word_at room (start_at room k + 1)
  unfolding day_at
  day-word k h = word_part room (start_at room k) (size_at room k) 1 (omega (arith, sound.long k h))

  before_next : (k : ℕ) → (day_at room k).date ≡ date_before room (suc k)
  unfolding day_at date_before
  before_next k = refl

  -- ---- from the check to the days

  module _ (accepted : number_of (book_rule room) ≡ 0) where
    kept-day : (k : ℕ) → k < count_of room → KeptDay (date_before room k) (day_at room k)
    kept-day k h =
        let e = entry_at room accepted k h in
        let d = date_is room sound k in
        let w = words_are room sound k h in
        record {
          real = rw d e.real;
          above = rw d e.above;
          long = rw w e.long;
          whole = file_long room sound k h ∙ ap (λ n. 4 * n) (sym w);
          dated = day-word k h ∙ date_at_lem room accepted k h ∙ sym d;
        }

    kept_run : (k m : ℕ) → k + m ≤ count_of room → KeptDays (date_before room k) (days_from room k m)
    unfolding days_from
    kept_run k zero h = tt
    kept_run k (suc m) h = (kept-day k (omega arith), rw (before_next k) (kept_run (suc k) m (omega arith)))

    pub kept_days : KeptDays 0 (days_of room)
    unfolding date_before
    kept_days = kept_run 0 (count_of room) (omega arith)

    -- places and lengths are words
    module _ (bytes : Below 256 room) where
      good-run : (k m : ℕ) → k + m ≤ count_of room → GoodDays (due_at room k) (days_from room k m)
      unfolding days_from
      good-run k zero h = tt
      good-run k (suc m) h =
          let below : k < count_of room = omega arith in
          let day = kept-day k below in
          let w = words_are room sound k below in
          let next : due_at room k + words_of (day_at room k) ≡ due_at room (suc k) = omega (arith, w, due_suc room k) in (
            record {
              dated = real_small _ day.real;
              placed = omega (arith, sound.due k below, word_below room bytes (2 + 3 * k + 1));
              sized = omega (arith, w, word_below room bytes (2 + 3 * k + 2));
              whole = day.whole;
            },
            rw next (good-run (suc k) m (omega arith)),
          )

      pub good_days : GoodDays (due_at room 0) (days_of room)
      good_days = good-run 0 (count_of room) (omega arith)

  -- ---- and back

  kept_at : (k m before : ℕ) → before ≡ date_before room k → KeptDays before (days_from room k m) → (j : ℕ) → k ≤ j → j < k + m
      → KeptDay (date_before room j) (day_at room j)
  unfolding days_from
  kept_at k zero before e days j h l = absurd (omega arith)
  kept_at k (suc m) before e days j h l =
      dite (dec_lt k j)
      (λ y. kept_at (suc k) m (day_at room k).date (before_next k) days.1 j y (omega arith))
      (λ y. let z : j ≡ k = omega (arith, y) in rw (z, ← e) days.0)

  module _ (days : KeptDays 0 (days_of room)) (k : ℕ) (h : k < count_of room) where
    here : KeptDay (date_before room k) (day_at room k)
    unfolding date_before
    here = kept_at 0 (count_of room) 0 refl days k (omega arith) (omega arith)

    ends : due_at room k + size_at room k ≤ room_words room
    ends = omega (arith, due_suc room k, due_within room sound (suc k) h)

    entry_accepted : number_of (entry_rule_at room k) ≡ 0
    unfolding entry_rule_at
    entry_accepted =
        let d = here in
        let is = date_is room sound k in
        let real : real_date (date_at room k) ≡ true = rw is at d.real in
        let above : date_before room k < date_at room k = rw is at d.above in
        rw (
          real,
          lt-ltb (date_before room k) (date_at room k) above,
          eq-eqb (start_at room k) (due_at room k) (sound.due k h),
          le-leb least_day_words (size_at room k) (sound.long k h),
          le-leb (due_at room k + size_at room k) (room_words room) ends,
        )

    date-accepted : number_of (date_rule_at room k) ≡ 0
    unfolding date_rule_at
    date-accepted =
        rw (eq-eqb (word_at room (start_at room k + 1)) (date_at room k) (sym (day-word k h) ∙ here.dated ∙ date_is room sound k))

  pub book_accepted : word_at room 0 ≡ 1 → KeptDays 0 (days_of room) → number_of (book_rule room) ≡ 0
  unfolding book_rule
  book_accepted one days =
      let entries = all_accept (entry_rule_at room) (count_of room) (entry_accepted days) in
      let dates = all_accept (date_rule_at room) (count_of room) (date-accepted days) in
      rw (
        le-leb 2 (room_words room) (omega (arith, sound.whole)),
        one,
        le-leb (count_of room) most_book_days sound.few,
        le-leb (2 + 3 * count_of room) (room_words room) (omega (arith, sound.whole)),
        or_next (scan (entry_rule_at room) 0 (count_of room)) (scan (date_rule_at room) 0 (count_of room)) entries,
      ) dates

-- What the check of a book tells of a book that it accepts.
use Prim.Native.Nat.{ℕ, zero, suc, ◌+◌, ◌*◌, ◌≤◌, ◌<◌}
use mathlib.Core.Bool.{true, ◌&&◌}
use mathlib.Core.Path.{◌≡◌}
use mathlib.Core.List.{List}
use native.Mathlib.Omega.{arith}
use borrow.Author.Tests.{leb-true, ltb-true, eqb-true}
use lib.Dec.{eqb, leb, ltb}
use lib.ListN.{length}
use Rattle.words.specs.Word.{word_at}
use Rattle.calendar.specs.Date.{real_date}
use Rattle.verdict.specs.Verdict.{number_of}
use Rattle.verdict.specs.First.{◌or_else◌, scan}
use Rattle.verdict.proofs.First.{kept, both, or_first, or_second, scan_each}
use Rattle.book.specs.Read.{room_words, count_of, date_at, start_at, size_at, date_before, due_at}
use Rattle.book.specs.Check.{most_book_days, least_day_words, entry_rule, entry_rule_at, date_rule_at, book_rule}
use Rattle.book.specs.Sound.{Sound}
use Rattle.book.proofs.Places.{due_first, due_suc}

pub record Entry (words before due date start size : ℕ) : Type 0 where
  pub real : real_date date ≡ true
  pub above : before < date
  pub there : start ≡ due
  pub long : least_day_words ≤ size
  pub inside : due + size ≤ words

pub entry_kept : (words at before due date start size : ℕ) → number_of (entry_rule words at before due date start size) ≡ 0
    → Entry words before due date start size
entry_kept words at before due date start size z =
    let a = kept (real_date date && ltb before date) _ _ z in
    let b = kept (eqb start due) _ _ a.1 in
    let d = kept (leb least_day_words size && leb (due + size) words) _ _ b.1 in
    let e = both (real_date date) _ a.0 in
    let f = both (leb least_day_words size) _ d.0 in
    record { real = e.0; above = ltb-true _ _ e.1; there = eqb-true _ _ b.0; long = leb-true _ _ f.0; inside = leb-true _ _ f.1 }

module _ (room : List ℕ) where
  abbrev pub EntryAt : ℕ → Type 0
  EntryAt k = Entry (room_words room) (date_before room k) (due_at room k) (date_at room k) (start_at room k) (size_at room k)

  pub entry_there : (k : ℕ) → number_of (entry_rule_at room k) ≡ 0 → EntryAt k
  unfolding entry_rule_at
  entry_there k z = entry_kept _ _ _ _ _ _ _ z

  ends-within : (m : ℕ) → 8 + 12 * count_of room ≤ length room → ((k : ℕ) → k < m → EntryAt k) → 4 * due_at room m ≤ length room
  ends-within zero whole each = omega (arith, due_first room)
  ends-within (suc k) whole each = omega (arith, due_suc room k, (each k (omega arith)).inside)

  pub sound_contents : count_of room ≤ most_book_days → 8 + 12 * count_of room ≤ length room → number_of (scan (entry_rule_at room) 0 (count_of room)) ≡ 0
      → Sound room
  sound_contents few whole z =
      let each : (k : ℕ) → k < count_of room → EntryAt k = λ k h. entry_there k (scan_each (entry_rule_at room) (count_of room) z k h) in
      record { few = few; whole = whole; due = λ k h. (each k h).there; long = λ k h. (each k h).long; inside = ends-within (count_of room) whole each }

  module _ (accepted : number_of (book_rule room) ≡ 0) where
    opened : (word_at room 0 ≡ 1) × (count_of room ≤ most_book_days) × (8 + 12 * count_of room ≤ length room)
        × (number_of (scan (entry_rule_at room) 0 (count_of room) or_else scan (date_rule_at room) 0 (count_of room)) ≡ 0)
    unfolding book_rule
    opened =
        let a = kept (leb 2 (room_words room) && eqb (word_at room 0) 1) _ _ accepted in
        let b = kept (leb (count_of room) most_book_days && leb (2 + 3 * count_of room) (room_words room)) _ _ a.1 in
        let d = both (leb 2 (room_words room)) _ a.0 in
        let e = both (leb (count_of room) most_book_days) _ b.0 in
        let fits : 2 + 3 * count_of room ≤ room_words room = leb-true _ _ e.1 in
        (eqb-true _ _ d.1, leb-true _ _ e.0, omega arith, b.1)

    pub first_word : word_at room 0 ≡ 1
    first_word = opened.0

    entries : number_of (scan (entry_rule_at room) 0 (count_of room)) ≡ 0
    entries = or_first _ _ opened.3

    pub sound_book : Sound room
    sound_book = sound_contents opened.1 opened.2 entries

    pub entry_at : (k : ℕ) → k < count_of room → EntryAt k
    entry_at k h = entry_there k (scan_each (entry_rule_at room) (count_of room) entries k h)

    pub date_at_lem : (k : ℕ) → k < count_of room → word_at room (start_at room k + 1) ≡ date_at room k
    unfolding date_rule_at
    date_at_lem k h =
        let z = scan_each (date_rule_at room) (count_of room) (or_second (scan (entry_rule_at room) 0 (count_of room)) _ opened.3) k h in
        eqb-true _ _ (kept (eqb (word_at room (start_at room k + 1)) (date_at room k)) _ _ z).0

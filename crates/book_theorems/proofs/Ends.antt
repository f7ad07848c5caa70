-- Where a book ends: behind its head, its contents and its files.
use Prim.Native.Nat.{ℕ, ◌+◌, ◌*◌, ◌-◌, ◌≤◌}
use mathlib.Core.Path.{◌≡◌, refl, sym, ap, ◌∙◌}
use mathlib.Core.List.{List, [], ◌∷◌, ◌++◌}
use native.Mathlib.Nat.{zero-add}
use native.Mathlib.Omega.{arith}
use lib.ListN.{length, take, drop, length-append, length-drop}
use lib.Seq.{drop-append-add, drop-drop, take_at}
use Rattle.exact.proofs.Lending.{part_length}
use Rattle.words.specs.Bytes.{word_bytes}
use Rattle.words.proofs.Words.{word_long}
use Rattle.book.specs.Days.{Day, words_of, contents_of, files_of, book_bytes, book_of}
use Rattle.book.specs.Read.{count_of, due_at, end_of, days_of}
use Rattle.book.specs.Sound.{Sound}
use Rattle.book.proofs.Lengths.{contents_long}
use Rattle.book.proofs.Places.{due_first, due_grows}
use Rattle.book.proofs.Runs.{days_count, files_are}
use Rattle.book_theorems.proofs.Good.{KeptDays, GoodDays}
use Rattle.book_theorems.proofs.Judged.{real_small}

pub book_long : (days : List Day) → length (book_bytes days) ≡ 8 + 12 * length days + length (files_of days)
unfolding book_bytes
book_long days =
    length-append (word_bytes 1) (word_bytes (length days) ++ (contents_of (2 + 3 * length days) days ++ files_of days))
    ∙ ap (λ n. length (word_bytes 1) + n) (length-append (word_bytes (length days)) (contents_of (2 + 3 * length days) days ++ files_of days))
    ∙ omega (
      arith,
      word_long 1,
      word_long (length days),
      length-append (contents_of (2 + 3 * length days) days) (files_of days),
      contents_long
          (2 + 3 * length days) days,
    )

module _ (room : List ℕ) (sound : Sound room) where
  pub count_is : length (days_of room) ≡ count_of room
  count_is = days_count room sound 0 (count_of room)

  files-end : length (files_of (days_of room)) ≡ 4 * end_of room - 4 * due_at room 0
  files-end =
      let up = due_grows room 0 (count_of room) (omega arith) in
      ap length (files_are room sound 0 (count_of room) (omega arith))
      ∙ ap (λ (n : ℕ). length (take (4 * due_at room n - 4 * due_at room 0) (drop (4 * due_at room 0) room))) (zero-add (count_of room))
      ∙ part_length room (4 * due_at room 0) (4 * end_of room - 4 * due_at room 0) (omega (arith, sound.inside))

  -- a sound book ends where the book of its days does
  pub end_is : 4 * end_of room ≡ length (book_bytes (days_of room))
  end_is = omega (arith, book_long (days_of room), count_is, files-end, due_first room, due_grows room 0 (count_of room) (omega arith))

-- places and lengths have words where the whole book ends within the words that a word can count
pub good_within : (before start : ℕ) (days : List Day) → 1 ≤ start → KeptDays before days → 4 * start + length (files_of days) ≤ 4 * 4294967296
    → GoodDays start days
unfolding files_of
good_within before start [] some kept h = tt
good_within before start (day ∷ days) some kept h =
    let d = kept.0 in
    let n = length-append day.file (files_of days) in
    let w = d.whole in
    let l = d.long in (
      record { dated = real_small day.date d.real; placed = omega arith; sized = omega arith; whole = w },
      good_within day.date (start + words_of day) days (omega arith) kept.1 (omega arith),
    )

-- ---- the room of a book

module _ (days : List Day) (room : List ℕ) (fits : length (book_bytes days) ≤ length room) where
  pub stands_long : length (book_of days room) ≡ length room
  unfolding book_of
  stands_long = rw (length-append, length-drop) (omega arith)

  -- behind the book all stays
  pub behind_book : (n : ℕ) → length (book_bytes days) ≤ n → drop n (book_of days room) ≡ drop n room
  unfolding book_of
  behind_book n h =
      let b = length (book_bytes days) in
      let e : b + (n - b) ≡ n = omega arith in
      rw (← e, drop-append-add (book_bytes days) (drop b room) (n - b)) (drop-drop (n - b) b room)

  pub before_book : take (length (book_bytes days)) (book_of days room) ≡ book_bytes days
  unfolding book_of
  before_book = take_at (book_bytes days) (drop (length (book_bytes days)) room) (length (book_bytes days)) refl

pub book_is : (days : List Day) (room : List ℕ) → book_of days room ≡ book_bytes days ++ drop (length (book_bytes days)) room
unfolding book_of
book_is days room = refl

-- a book put over a shorter one
pub book_over : (days shorter : List Day) (room : List ℕ) → length (book_bytes shorter) ≤ length room → length (book_bytes shorter) ≤ length (book_bytes days)
    → book_of days (book_of shorter room) ≡ book_of days room
book_over days shorter room fits h =
    book_is days (book_of shorter room)
    ∙ ap (λ l. book_bytes days ++ l) (behind_book shorter room fits (length (book_bytes days)) h)
    ∙ sym (book_is days room)

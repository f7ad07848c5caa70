-- A sound book with a day less: what withdrawing writes is the book of the days without that one.
use Prim.Native.Nat.{ℕ, zero, suc, ◌+◌, ◌*◌, ◌-◌, ◌≤◌, ◌<◌}
use mathlib.Core.Path.{◌≡◌, refl, sym, ap, ap₂, ◌∙◌}
use mathlib.Core.List.{List, ◌++◌, append_assoc}
use native.Mathlib.Nat.{add-zero}
use native.Mathlib.Numerals.{add-one}
use native.Mathlib.Omega.{arith}
use lib.ListN.{length, drop, length-append, replicate, length-replicate, replicate-append-replicate}
use lib.Seq.{drop_at}
use Rattle.exact.proofs.Lending.{part_length}
use Rattle.words.proofs.Words.{word_long}
use Rattle.moving.specs.Written.{written, part}
use Rattle.moving.proofs.Written.{part_behind, then_behind}
use Rattle.book.specs.Days.{Day, words_of, contents_of, files_of, book_bytes, book_of}
use Rattle.book.specs.Read.{count_of, start_at, size_at, due_at, end_of, day_at, days_from}
use Rattle.book.specs.Sound.{Sound}
use Rattle.book.proofs.Places.{due_first, due_suc, due_grows}
use Rattle.book.proofs.Runs.{behind, contents_append, files_append, date_is, words_are, days_count, files_are}
use Rattle.book_entries.specs.Entries.{earlier, left_over}
use Rattle.book_entries.proofs.Entries.{earlier_length}
use Rattle.keeping_moves.specs.Moves.{without_at}
use Rattle.keeping_moves.specs.Moves.{emptied}

emptied_behind : (m z n : ℕ) (rest : List ℕ) → m + z ≡ n → drop m (replicate n 0 ++ rest) ≡ replicate z 0 ++ rest
emptied_behind m z n rest e =
    ap (λ l. drop m (l ++ rest)) (sym (replicate-append-replicate m z 0 ∙ ap (λ k. replicate k 0) e))
    ∙ ap (drop m) (append_assoc (replicate m 0) (replicate z 0) rest)
    ∙ drop_at (replicate m 0) (replicate z 0 ++ rest) m (length-replicate m 0)

-- a book in the room of a longer one, whose words are 0
pub book_emptied : (room : List ℕ) (days : List Day) (z : ℕ) → length (book_bytes days) + z ≡ 4 * end_of room
    → book_of days (emptied room) ≡ book_bytes days ++ (replicate z 0 ++ drop (4 * end_of room) room)
unfolding book_of emptied
book_emptied room days z long =
    ap (λ l. book_bytes days ++ l) (emptied_behind (length (book_bytes days)) z (4 * end_of room) (drop (4 * end_of room) room) long)

-- a book that is written to the front of the room, with as many zeros behind it as the old book is longer
at_front_emptied : (room after bytes : List ℕ) (days : List Day) (z : ℕ) → after ≡ written room 0 bytes → bytes ≡ book_bytes days ++ replicate z 0
    → length bytes ≡ 4 * end_of room → after ≡ book_of days (emptied room)
unfolding written
at_front_emptied room after bytes days z e f l =
    let none : 0 + length bytes ≡ 4 * end_of room = omega arith in
    let zeros : length {A = ℕ} (replicate z 0) ≡ z = length-replicate z 0 in
    let long : length (book_bytes days) + z ≡ 4 * end_of room = omega (arith, ap length f ∙ length-append (book_bytes days) (replicate z 0)) in
    rw (e, none, f, book_emptied room days z long) (append_assoc (book_bytes days) (replicate z 0) (drop (4 * end_of room) room))

regroup : (a b c book : List ℕ) → a ++ b ≡ book → a ++ (b ++ c) ≡ book ++ c
regroup a b c book e = rw (← e) (sym (append_assoc a b c))

module _ (room : List ℕ) (sound : Sound room) where
  -- the same when the starts are by `less` earlier
  days-behind-less : (less k m : ℕ) → less ≤ due_at room k → k + m ≤ count_of room → behind (due_at room k - less) (days_from room k m) ≡ due_at room (k + m) - less
  unfolding days_from
  days-behind-less less k zero l h = rw add-zero
  days-behind-less less k (suc m) l h =
      let e : due_at room k - less + words_of (day_at room k) ≡ due_at room (suc k) - less = omega (arith, words_are room sound k (omega arith), due_suc room k) in
      let f : suc k + m ≡ k + suc m = omega arith in
      ap (λ s. behind s (days_from room (suc k) m)) e ∙ days-behind-less less (suc k) m (omega (arith, due_suc room k)) (omega arith) ∙ ap
      (λ j. due_at room j - less) f

  pub earlier_is : (less k m : ℕ) → less ≤ due_at room k → k + m ≤ count_of room → earlier room less k m ≡ contents_of (due_at room k - less) (days_from room k m)
  unfolding earlier contents_of days_from
  earlier_is less k zero l h = refl
  earlier_is less k (suc m) l h =
      let e : due_at room k - less + size_at room k ≡ due_at room (suc k) - less = omega (arith, due_suc room k) in
      rw (
        date_is room sound k,
        words_are room sound k (omega arith),
        e,
        sound.due k (omega arith),
        earlier_is less (suc k) m (omega (arith, due_suc room k))
            (omega arith),
      )

  module _ (k : ℕ) (h : k < count_of room) where
    abbrev place : ℕ
    place = due_at room k

    abbrev size : ℕ
    size = size_at room k

    abbrev final : ℕ
    final = due_at room (count_of room)

    without-count : length (without_at room k) ≡ count_of room - 1
    without-count = simp (length-append, days_count room sound) (omega arith)

    without-contents : contents_of (2 + 3 * (count_of room - 1)) (without_at room k) ≡ earlier room 3 0 k ++ earlier room (3 + size) (k + 1) (count_of room - 1 - k)
    without-contents =
        let s : 2 + 3 * (count_of room - 1) ≡ due_at room 0 - 3 = omega (arith, due_first room) in
        let z : 0 + k ≡ k = omega arith in
        let t : place - 3 ≡ due_at room (suc k) - (3 + size) = omega (arith, due_suc room k) in
        let m : count_of room - 1 - k ≡ count_of room - suc k = omega arith in
        let low : 3 ≤ due_at room 0 = omega (arith, due_first room) in
        rw (
          s,
          contents_append (due_at room 0 - 3) (days_from room 0 k) (days_from room (suc k) (count_of room - suc k)),
          days-behind-less 3 0 k low (omega arith),
          z,
          t,
          earlier_is 3 0 k low (omega arith),
          add-one k,
          m,
          earlier_is (3 + size) (suc k) (count_of room - suc k)
              (omega (arith, due_suc room k, due_grows room 0 k (omega arith))) (omega arith),
        )

    abbrev pub kept : List ℕ
    kept = part room (8 + 12 * count_of room) (4 * place - (8 + 12 * count_of room)) ++ part room (4 * place + 4 * size) (4 * final - (4 * place + 4 * size))

    without-files : files_of (without_at room k) ≡ kept
    without-files =
        let s : 4 * due_at room 0 ≡ 8 + 12 * count_of room = omega (arith, due_first room) in
        let z : 0 + k ≡ k = omega arith in
        let t : 4 * due_at room (suc k) ≡ 4 * place + 4 * size = omega (arith, due_suc room k) in
        let m : suc k + (count_of room - suc k) ≡ count_of room = omega arith in
        rw (
          files_append (days_from room 0 k) (days_from room (suc k) (count_of room - suc k)),
          files_are room sound 0 k (omega arith),
          files_are room sound
              (suc k) (count_of room - suc k) (omega arith),
          z,
          m,
          s,
          t,
        )

    without_is : left_over room (count_of room) k size ++ kept ≡ book_bytes (without_at room k)
    unfolding book_bytes
    without_is = rw (without-count, without-contents, without-files) (simp append_assoc)

    pub first_due : 8 + 12 * count_of room ≤ 4 * place
    first_due = omega (arith, due_first room, due_grows room 0 k (omega arith))

    pub last_due : place + size ≤ final
    last_due = omega (arith, due_suc room k, due_grows room (suc k) (count_of room) h)

    left-long : length (left_over room (count_of room) k size) ≡ 8 + 12 * count_of room - 12
    left-long = simp (length-append, word_long, earlier_length) (omega arith)

    kept-long : length kept ≡ 4 * final - (8 + 12 * count_of room) - 4 * size
    kept-long =
        let l = first_due in
        let g = last_due in
        let i = sound.inside in
        simp (
          length-append,
          part_length room (8 + 12 * count_of room) (4 * place - (8 + 12 * count_of room)) (omega arith),
          part_length room
              (4 * place + 4 * size) (4 * final - (4 * place + 4 * size)) (omega arith),
        ) (omega arith)

    -- starts are late enough to be moved down
    pub starts_late : (j : ℕ) → j < k → 3 ≤ start_at room j
    starts_late j q = omega (arith, sound.due j (omega arith), due_first room, due_grows room 0 j (omega arith))

    pub starts_later : (j : ℕ) → k < j → j < count_of room → 3 + size ≤ start_at room j
    starts_later j q r = omega (arith, sound.due j r, due_first room, due_suc room k, due_grows room 0 k (omega arith), due_grows room (suc k) j q)

    abbrev zeros : List ℕ
    zeros = replicate (4 * size + 12) 0

    zeros-long : length zeros ≡ 4 * size + 12
    zeros-long = length-replicate (4 * size + 12) 0

    tail-long : length (kept ++ zeros) ≡ 4 * final - (8 + 12 * count_of room) + 12
    tail-long = rw (length-append kept zeros, kept-long, zeros-long) (omega (arith, first_due, last_due))

    all-long : length (left_over room (count_of room) k size ++ (kept ++ zeros)) ≡ 4 * final
    all-long = rw (length-append (left_over room (count_of room) k size) (kept ++ zeros), left-long, tail-long) (omega (arith, first_due, last_due))

    all-is : left_over room (count_of room) k size ++ (kept ++ zeros) ≡ book_bytes (without_at room k) ++ zeros
    all-is = regroup (left_over room (count_of room) k size) kept zeros (book_bytes (without_at room k)) without_is

    module _ (left after : List ℕ) (e : left ≡ written room 0 (left_over room (count_of room) k size)) where
      stay : (from m : ℕ) → 8 + 12 * count_of room ≤ from → part left from m ≡ part room from m
      stay from m q =
          rw e (part_behind room 0 (left_over room (count_of room) k size) from m (omega (arith, left-long, sound.whole)) (omega (arith, left-long)))

      kept-stay : part left (8 + 12 * count_of room) (4 * place - (8 + 12 * count_of room)) ++ part left (4 * place + 4 * size)
          (4 * final - (4 * place + 4 * size)) ≡ kept
      kept-stay = ap₂ ◌++◌ (stay (8 + 12 * count_of room) (4 * place - (8 + 12 * count_of room)) (omega arith))
          (stay (4 * place + 4 * size) (4 * final - (4 * place + 4 * size)) (omega (arith, first_due)))

      freed : 4 * place + 4 * size - 4 * place + 12 ≡ 4 * size + 12
      freed = omega arith

      -- the entries left, and the files closed up: the room holds the book with a day less, zeros, and what stood behind
      pub withdrawn : after ≡ written left (8 + 12 * count_of room - 12) (part left (8 + 12 * count_of room) (4 * place - (8 + 12 * count_of room)) ++ part left
          (4 * place + 4 * size) (4 * final - (4 * place + 4 * size)) ++ replicate (4 * place + 4 * size - 4 * place + 12) 0)
          → after ≡ book_of (without_at room k) (emptied room)
      withdrawn f =
          at_front_emptied room after (left_over room (count_of room) k size ++ (kept ++ zeros)) (without_at room k) (4 * size + 12)
          (then_behind room left after (kept ++ zeros) (left_over room (count_of room) k size) 0 (8 + 12 * count_of room - 12) (omega (arith, left-long))
          (omega (arith, tail-long, first_due, last_due, sound.inside)) e (rw (kept-stay, freed) at f))
          all-is all-long

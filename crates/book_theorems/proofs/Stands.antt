-- A book that the check accepts is the book of its days.
use Prim.Native.Nat.{ℕ, zero, suc, ◌+◌, ◌*◌, ◌-◌, ◌≤◌, ◌<◌}
use mathlib.Core.Path.{◌≡◌, refl, sym, ap, ap₂, ◌∙◌}
use mathlib.Core.List.{List, ◌++◌, append_assoc}
use native.Mathlib.Nat.{zero-add}
use native.Mathlib.Omega.{arith}
use lib.ListN.{take-append-drop}
use Rattle.words.specs.Word.{word_at}
use Rattle.words.specs.Bytes.{word_bytes, Below}
use Rattle.words.proofs.Bytes.{word_bytes_lem}
use Rattle.verdict.specs.Verdict.{number_of}
use Rattle.moving.specs.Written.{part}
use Rattle.moving.proofs.Written.{part_add}
use Rattle.book.specs.Days.{entry_bytes, contents_of, files_of, book_bytes, book_of}
use Rattle.book.specs.Read.{count_of, date_at, start_at, size_at, due_at, end_of, days_from, days_of}
use Rattle.book.specs.Check.{book_rule}
use Rattle.book.specs.Sound.{Sound}
use Rattle.book.proofs.Places.{due_first, due_suc, due_grows}
use Rattle.book.proofs.Kept.{sound_book, first_word}
use Rattle.book.proofs.Runs.{date_is, words_are, files_are}
use Rattle.book_theorems.proofs.Ends.{count_is, end_is}

in_parts : (room : List ℕ) (n m : ℕ) → part room 0 (8 + n + m) ≡ part room 0 8 ++ (part room 8 n ++ part room (8 + n) m)
in_parts room n m =
    let e : 8 + n + m ≡ 8 + (n + m) = omega arith in
    rw (e, part_add room 0 8 (n + m), part_add room 8 n m)

module _ (room : List ℕ) (bytes : Below 256 room) (sound : Sound room) where
  -- an entry, by its words
  entry-bytes : (k : ℕ) → k < count_of room → entry_bytes (date_at room k) (start_at room k) (size_at room k) ≡ part room (8 + 12 * k) 12
  unfolding entry_bytes
  entry-bytes k h =
      let long = sound.whole in
      let a : 4 * (2 + 3 * k) ≡ 8 + 12 * k = omega arith in
      let b : 4 * (2 + 3 * k + 1) ≡ 8 + 12 * k + 4 = omega arith in
      let d : 4 * (2 + 3 * k + 2) ≡ 8 + 12 * k + 8 = omega arith in
      rw (
        word_bytes_lem room bytes (2 + 3 * k) (omega arith),
        word_bytes_lem room bytes (2 + 3 * k + 1) (omega arith),
        word_bytes_lem room bytes (2 + 3 * k + 2) (omega arith),
        a,
        b,
        d,
        part_add room (8 + 12 * k) 8 4,
        part_add room (8 + 12 * k) 4 4,
      )

  contents-bytes : (k m : ℕ) → k + m ≤ count_of room → contents_of (due_at room k) (days_from room k m) ≡ part room (8 + 12 * k) (12 * m)
  unfolding contents_of days_from
  contents-bytes k zero h = refl
  contents-bytes k (suc m) h =
      let below : k < count_of room = omega arith in
      let w = words_are room sound k below in
      let next : due_at room k + size_at room k ≡ due_at room (suc k) = sym (due_suc room k) in
      let e : 12 * suc m ≡ 12 + 12 * m = omega arith in
      let f : 8 + 12 * suc k ≡ 8 + 12 * k + 12 = omega arith in
      rw (
        date_is room sound k,
        w,
        next,
        ← sound.due k below,
        entry-bytes k below,
        contents-bytes (suc k) m (omega arith),
        e,
        f,
        part_add room (8 + 12 * k) 12
            (12 * m),
      )

  contents-there : contents_of (2 + 3 * count_of room) (days_of room) ≡ part room 8 (12 * count_of room)
  contents-there = ap (λ start. contents_of start (days_of room)) (sym (due_first room)) ∙ contents-bytes 0 (count_of room) (omega arith)

  files-there : files_of (days_of room) ≡ part room (8 + 12 * count_of room) (4 * end_of room - (8 + 12 * count_of room))
  files-there =
      let e : 4 * due_at room 0 ≡ 8 + 12 * count_of room = omega (arith, due_first room) in
      files_are room sound 0 (count_of room) (omega arith) ∙ rw (e, zero-add (count_of room))

  book-parts : book_bytes (days_of room)
      ≡ word_bytes 1 ++ (word_bytes (count_of room) ++ (contents_of (2 + 3 * count_of room) (days_of room) ++ files_of (days_of room)))
  unfolding book_bytes
  book-parts = rw (count_is room sound)

  module _ (one : word_at room 0 ≡ 1) where
    head_bytes : word_bytes 1 ++ word_bytes (count_of room) ≡ part room 0 8
    head_bytes =
        let long = sound.whole in
        ap₂ ◌++◌ (ap word_bytes (sym one) ∙ word_bytes_lem room bytes 0 (omega arith)) (word_bytes_lem room bytes 1 (omega arith)) ∙ sym (part_add room 0 4 4)

    all-bytes : book_bytes (days_of room) ≡ part room 0 (4 * end_of room)
    all-bytes =
        let n = count_of room in
        let first = due_first room in
        let up = due_grows room 0 n (omega arith) in
        let whole : 4 * end_of room ≡ 8 + 12 * n + (4 * end_of room - (8 + 12 * n)) = omega arith in
        book-parts
        ∙ sym (append_assoc (word_bytes 1) (word_bytes n) (contents_of (2 + 3 * n) (days_of room) ++ files_of (days_of room)))
        ∙ ap₂ ◌++◌ head_bytes (ap₂ ◌++◌ contents-there files-there)
        ∙ sym (ap (part room 0) whole ∙ in_parts room (12 * n) (4 * end_of room - (8 + 12 * n)))

    stands : room ≡ book_of (days_of room) room
    unfolding book_of
    stands =
        let e = end_is room sound in
        rw (← e, all-bytes) (sym (take-append-drop (4 * end_of room) room))

pub by_days : (room : List ℕ) → Below 256 room → number_of (book_rule room) ≡ 0 → room ≡ book_of (days_of room) room
by_days room bytes accepted = stands room bytes (sound_book room accepted) (first_word room accepted)

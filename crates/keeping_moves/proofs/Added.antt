-- A sound book with a day more: what adding writes is the book of the days with that one among them.
use Prim.Native.Nat.{ℕ, zero, suc, ◌+◌, ◌*◌, ◌-◌, ◌/◌, ◌≤◌, ◌<◌}
use mathlib.Core.Path.{◌≡◌, refl}
use mathlib.Core.List.{List, ◌∷◌, ◌++◌, append_assoc}
use native.Mathlib.Omega.{arith}
use lib.ListN.{length, length-append}
use Rattle.exact.proofs.Lending.{part_length}
use Rattle.words.specs.Word.{word_at}
use Rattle.words.proofs.Words.{word_long}
use Rattle.moving.specs.Written.{written, part}
use Rattle.moving.proofs.Written.{then_before}
use Rattle.moving.proofs.WordsLeft.{words_before}
use Rattle.book.specs.Days.{Day, entry_bytes, contents_of, files_of, book_bytes, book_of}
use Rattle.book.specs.Read.{count_of, start_at, size_at, due_at, days_from}
use Rattle.book.specs.Sound.{Sound}
use Rattle.book.proofs.Lengths.{entry_long}
use Rattle.book.proofs.Places.{due_first, due_suc, due_grows}
use Rattle.book.proofs.Runs.{contents_append, files_append, date_is, words_are, days_count, days_behind, files_are}
use Rattle.book_entries.specs.Entries.{later, entered}
use Rattle.book_entries.proofs.Entries.{later_length, later_same}
use Rattle.keeping_moves.specs.Moves.{added_at}

-- a book that is written to the front of the room
pub at_front : (room after bytes : List ℕ) (days : List Day) → after ≡ written room 0 bytes → bytes ≡ book_bytes days → after ≡ book_of days room
unfolding written book_of
at_front room after bytes days e f =
    let z : 0 + length bytes ≡ length bytes = omega arith in
    rw (e, z, f)

module _ (room : List ℕ) (sound : Sound room) where
  -- the entries of a run of days, each start by `more` later
  pub later_is : (more k m : ℕ) → k + m ≤ count_of room → later room more k m ≡ contents_of (due_at room k + more) (days_from room k m)
  unfolding later contents_of days_from
  later_is more k zero h = refl
  later_is more k (suc m) h =
      let e : due_at room k + more + size_at room k ≡ due_at room (suc k) + more = omega (arith, due_suc room k) in
      rw (date_is room sound k, words_are room sound k (omega arith), e, sound.due k (omega arith), later_is more (suc k) m (omega arith))

  module _ (k date : ℕ) (file : List ℕ) (h : k ≤ count_of room) where
    abbrev day : Day
    day = record { date = date; file = file }

    abbrev here : ℕ
    here = due_at room k

    abbrev end : ℕ
    end = due_at room (count_of room)

    added-count : length (added_at room k day) ≡ count_of room + 1
    added-count = simp (length-append, days_count room sound) (omega arith)

    added-contents : contents_of (2 + 3 * (count_of room + 1)) (added_at room k day)
        ≡ later room 3 0 k ++ (entry_bytes date (here + 3) (length file / 4) ++ later room (3 + length file / 4) k (count_of room - k))
    unfolding contents_of
    added-contents =
        let s : 2 + 3 * (count_of room + 1) ≡ due_at room 0 + 3 = omega (arith, due_first room) in
        let z : 0 + k ≡ k = omega arith in
        let t : here + 3 + length file / 4 ≡ here + (3 + length file / 4) = omega arith in
        let m : k + (count_of room - k) ≤ count_of room = omega arith in
        rw (
          s,
          contents_append (due_at room 0 + 3) (days_from room 0 k) (day ∷ days_from room k (count_of room - k)),
          days_behind room sound 3 0 k (omega arith),
          z,
          t,
          later_is 3 0 k (omega arith),
          later_is (3 + length file / 4) k (count_of room - k) m,
        )

    added-files : files_of (added_at room k day)
        ≡ part room (8 + 12 * count_of room) (4 * here - (8 + 12 * count_of room)) ++ (file ++ part room (4 * here) (4 * end - 4 * here))
    unfolding files_of
    added-files =
        let s : 4 * due_at room 0 ≡ 8 + 12 * count_of room = omega (arith, due_first room) in
        let z : 0 + k ≡ k = omega arith in
        let m : k + (count_of room - k) ≡ count_of room = omega arith in
        rw (
          files_append (days_from room 0 k) (day ∷ days_from room k (count_of room - k)),
          files_are room sound 0 k (omega arith),
          files_are room sound k
              (count_of room - k) (omega arith),
          z,
          m,
          s,
        )

    -- head, contents and files as they were written are the book of the days with one more
    pub added_is : entered room (count_of room) k date (here + 3) (length file / 4)
        ++ (part room (8 + 12 * count_of room) (4 * here - (8 + 12 * count_of room)) ++ (file ++ part room (4 * here) (4 * end - 4 * here)))
        ≡ book_bytes (added_at room k day)
    unfolding book_bytes
    added_is = rw (added-count, added-contents, added-files) (simp append_assoc)

    abbrev pub files : List ℕ
    files = part room (8 + 12 * count_of room) (4 * here - (8 + 12 * count_of room)) ++ (file ++ part room (4 * here) (4 * end - 4 * here))

    pub low : 8 + 12 * count_of room ≤ 4 * here
    low = omega (arith, due_first room, due_grows room 0 k (omega arith))

    pub high : here ≤ end
    high = due_grows room k (count_of room) h

    module _ (fits : 4 * end + 12 + length file ≤ length room) (way : List ℕ) (made : way ≡ written room (8 + 12 * count_of room + 12) files) where
      files_long : length files ≡ 4 * end - (8 + 12 * count_of room) + length file
      files_long =
          let l = low in
          let g = high in
          simp (
            length-append,
            part_length room (8 + 12 * count_of room) (4 * here - (8 + 12 * count_of room)) (omega arith),
            part_length room (4 * here)
                (4 * end - 4 * here) (omega arith),
          ) (omega arith)

      stand : (i : ℕ) → i < 2 + 3 * count_of room → word_at way i ≡ word_at room i
      stand i q = words_before room way (8 + 12 * count_of room + 12) files (omega (arith, files_long, low, high)) made i (omega arith)

      -- each start has a word, moved up too
      pub starts_fit : (more : ℕ) → end + more ≤ 4294967296 → (j : ℕ) → j < count_of room → start_at way j + more < 4294967296
      starts_fit more g j q = omega (
        arith,
        stand (2 + 3 * j + 1) (omega arith),
        sound.due j q,
        sound.long j q,
        due_suc room j,
        due_grows room (suc j)
            (count_of room) q,
      )

      -- way made, and entered: the room holds the book with a day more, and behind it what stood there
      pub added_done : (after : List ℕ) → after ≡ written way 0 (entered way (count_of room) k date (here + 3) (length file / 4))
          → after ≡ book_of (added_at room k day) room
      added_done after f =
          let l = low in
          let g = high in
          let n = files_long in
          let same : entered way (count_of room) k date (here + 3) (length file / 4) ≡ entered room (count_of room) k date (here + 3) (length file / 4) =
          rw (
            later_same way room 3 0 k (λ i q. stand i (omega arith)),
            later_same way room (3 + length file / 4) k (count_of room - k)
                (λ i q. stand i (omega arith)),
          ) in
          let m : length (entered room (count_of room) k date (here + 3) (length file / 4)) ≡ 8 + 12 * count_of room + 12 =
          simp (length-append, word_long, entry_long, later_length) (omega arith) in
          let whole : after ≡ written room 0 (entered room (count_of room) k date (here + 3) (length file / 4) ++ files) =
          then_before room way after (entered room (count_of room) k date (here + 3) (length file / 4)) files 0 (8 + 12 * count_of room + 12) (omega arith)
          (omega arith) made (rw same at f) in
          at_front room after (entered room (count_of room) k date (here + 3) (length file / 4) ++ files) (added_at room k day) whole added_is

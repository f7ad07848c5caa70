-- What stands in the room after each step of rewriting the head and the contents.
use Rattle.std.proofs.Common.{◌≡◌, ℕ, ◌+◌, ◌*◌, ◌-◌, ◌≤◌, ◌<◌, List, ◌++◌, length, refl, arith, length-append}
use native.Mathlib.Nat.{sub-zero}
use Rattle.words.specs.Word.{word_at}
use Rattle.words.specs.Bytes.{word_bytes}
use Rattle.words.proofs.Words.{word_long}
use Rattle.moving.specs.Written.{written}
use Rattle.moving.proofs.Written.{then_before, then_behind}
use Rattle.moving.proofs.WordsLeft.{words_before, words_behind}
use Rattle.book.specs.Days.{entry_bytes}
use Rattle.book.proofs.Lengths.{entry_long}
use Rattle.book_entries.specs.Entries.{later, entered, earlier, left_over}
use Rattle.book_entries.proofs.Entries.{later_length, later_same, earlier_length, earlier_same}

module _ (room : List ℕ) (n k date start size : ℕ) (h : k ≤ n) (long : 8 + 12 * n + 12 ≤ length room)
    (one two : List ℕ) (e : one ≡ written room (8 + 12 * (k + 1)) (later room (3 + size) k (n - k)))
    (f : two ≡ written one (8 + 12 * k) (entry_bytes date start size)) where
  -- the entries behind, and the new one
  abbrev behind : List ℕ
  behind = entry_bytes date start size ++ later room (3 + size) k (n - k)

  behind_entered : two ≡ written room (8 + 12 * k) behind
  behind_entered =
      then_before room one two (entry_bytes date start size) (later room (3 + size) k (n - k)) (8 + 12 * k) (8 + 12 * (k + 1))
      (omega (arith, entry_long date start size)) (omega (arith, later_length room (3 + size) k (n - k))) e f

  behind_long : length behind ≡ 12 + 12 * (n - k)
  behind_long = rw (length-append, entry_long date start size, later_length room (3 + size) k (n - k))

  -- the words of the entries before it stand
  pub words_stand : (i : ℕ) → i < 2 + 3 * k → word_at two i ≡ word_at room i
  words_stand i q = words_before room two (8 + 12 * k) behind (rw behind_long (omega arith)) behind_entered i (omega arith)

  pub all_entered : (three fourth five : List ℕ) → three ≡ written two 8 (later two 3 0 (k - 0))
      → fourth ≡ written three 4 (word_bytes (n + 1))
      → five ≡ written fourth 0 (word_bytes 1) → five ≡ written room 0 (entered room n k date start size)
  all_entered three fourth five g i j =
      let same : later two 3 0 k ≡ later room 3 0 k = later_same two room 3 0 k (λ i q. words_stand i (omega arith)) in
      let front = later_length room 3 0 k in
      let third = then_before room two three (later room 3 0 k) behind 8 (8 + 12 * k) (omega arith) (rw behind_long (omega arith)) behind_entered
      (rw (sub-zero k, same) at g) in
      let last = then_before room three fourth (word_bytes (n + 1)) _ 4 8 (rw word_long refl)
      (rw (length-append, behind_long) (omega arith)) third i in
      then_before room fourth five (word_bytes 1) _ 0 4 (rw word_long refl)
      (rw (length-append, word_long (n + 1), length-append, behind_long) (omega arith))
      last j

module _ (room : List ℕ) (n k size : ℕ) (h : k < n) (long : 8 + 12 * n ≤ length room)
    (one two : List ℕ) (e : one ≡ written room 0 (word_bytes 1)) (f : two ≡ written one 4 (word_bytes (n - 1))) where
  abbrev head : List ℕ
  head = word_bytes 1 ++ word_bytes (n - 1)

  head_left : two ≡ written room 0 head
  head_left = then_behind room one two (word_bytes (n - 1)) (word_bytes 1) 0 4 (rw word_long refl) (omega (arith, word_long (n - 1))) e f

  head_long : length head ≡ 8
  head_long = rw (length-append, word_long 1, word_long (n - 1))

  -- the entries' words stand while the head is written
  pub head_stand : (i : ℕ) → 2 ≤ i → word_at two i ≡ word_at room i
  head_stand i q = words_behind room two 0 head (omega (arith, head_long)) head_left i (omega (arith, head_long))

  module _ (three : List ℕ) (g : three ≡ written two 8 (earlier two 3 0 (k - 0))) where
    abbrev front : List ℕ
    front = head ++ earlier room 3 0 k

    front_left : three ≡ written room 0 front
    front_left =
        let same : earlier two 3 0 k ≡ earlier room 3 0 k = earlier_same two room 3 0 k (λ i q. head_stand i (omega arith)) in
        then_behind room two three (earlier room 3 0 k) head 0 8 (omega (arith, head_long)) (omega (arith, earlier_length room 3 0 k)) head_left
        (rw (sub-zero k, same) at g)

    front_long : length front ≡ 8 + 12 * k
    front_long = rw (length-append head (earlier room 3 0 k), head_long, earlier_length room 3 0 k)

    -- the words of the entries behind stand
    pub front_stand : (i : ℕ) → 2 + 3 * k ≤ i → word_at three i ≡ word_at room i
    front_stand i q = words_behind room three 0 front (omega (arith, front_long)) front_left i (omega (arith, front_long))

    pub all_left : (fourth : List ℕ) → fourth ≡ written three (8 + 12 * k) (earlier three (3 + size) (k + 1) (n - 1 - k))
        → fourth ≡ written room 0 (left_over room n k size)
    all_left fourth i =
        let m = n - 1 - k in
        let same : earlier three (3 + size) (k + 1) m ≡ earlier room (3 + size) (k + 1) m =
        earlier_same three room (3 + size) (k + 1) m (λ i q. front_stand i (omega arith)) in
        then_behind room three fourth (earlier room (3 + size) (k + 1) m) front 0 (8 + 12 * k)
        (omega (arith, front_long)) (omega (arith, earlier_length room (3 + size) (k + 1) m)) front_left (rw same at i)

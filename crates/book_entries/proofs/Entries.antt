-- The entries of a book while they are rewritten.
use Prim.Native.Nat.{ℕ, zero, suc, ◌+◌, ◌*◌, ◌-◌, ◌≤◌, ◌<◌}
use mathlib.Core.Path.{◌≡◌, refl, ap, ◌∙◌}
use mathlib.Core.List.{List, ◌++◌}
use native.Mathlib.Numerals.{add-one}
use native.Mathlib.Omega.{arith}
use lib.ListN.{length, length-append}
use Rattle.words.specs.Word.{word_at}
use Rattle.words.specs.Bytes.{word_bytes}
use Rattle.words.proofs.Words.{word_long}
use Rattle.moving.specs.Written.{written}
use Rattle.moving.proofs.Written.{then_before, then_behind}
use Rattle.std.proofs.lemmas.Grind.{common_steps}
use Rattle.moving.proofs.WordsLeft.{word_before, words_behind}
use Rattle.book.specs.Days.{entry_bytes}
use Rattle.book.proofs.Lengths.{entry_long}
use Rattle.book.specs.Read.{date_at, start_at, size_at}
use Rattle.book_entries.specs.Entries.{later, earlier}

-- three words one after the other
pub entry_written : (room one two three : List ℕ) (k date start size : ℕ) → 8 + 12 * k + 12 ≤ length room
    → one ≡ written room (4 * (2 + 3 * k)) (word_bytes date) → two ≡ written one (4 * (2 + 3 * k + 1)) (word_bytes start)
    → three ≡ written two (4 * (2 + 3 * k + 2)) (word_bytes size) → three ≡ written room (8 + 12 * k) (entry_bytes date start size)
unfolding entry_bytes
entry_written room one two three k date start size h e f g =
    let a : 4 * (2 + 3 * k) ≡ 8 + 12 * k = omega arith in
    let day = word_bytes date in
    let both = then_behind room one two (word_bytes start) day (8 + 12 * k) (4 * (2 + 3 * k + 1)) (omega (arith, word_long date))
    (omega (arith, word_long start)) (rw a at e) f in
    then_behind room two three (word_bytes size) (day ++ word_bytes start) (8 + 12 * k) (4 * (2 + 3 * k + 2))
    (simp (length-append, word_long) (omega arith)) (omega (arith, word_long size)) both g

pub later_length : (room : List ℕ) (more k m : ℕ) → length (later room more k m) ≡ 12 * m
unfolding later
later_length room more k zero = refl
later_length room more k (suc m) = simp (length-append, entry_long, later_length room more (suc k) m) (omega arith)

-- the words of the entries before those that were written
pub later_keeps : (room now : List ℕ) (more k up high : ℕ) → k ≤ high → 8 + 12 * (high + up) ≤ length room
    → now ≡ written room (8 + 12 * (k + up)) (later room more k (high - k)) → (i : ℕ) → i < 2 + 3 * k → word_at now i ≡ word_at room i
later_keeps room now more k up high h l stands i q =
    ap (λ r. word_at r i) stands
    ∙ word_before room (8 + 12 * (k + up)) (later room more k (high - k)) i (rw (later_length room more k (high - k)) (omega arith)) (omega arith)

-- an entry more before those that were written
pub entry_before : (room now next : List ℕ) (more k up high : ℕ) → k < high → 8 + 12 * (high + up) ≤ length room
    → now ≡ written room (8 + 12 * (k + 1 + up)) (later room more (k + 1) (high - (k + 1)))
    → next ≡ written now (8 + 12 * (k + up)) (entry_bytes (date_at now k) (start_at now k + more) (size_at now k))
    → next ≡ written room (8 + 12 * (k + up)) (later room more k (high - k))
unfolding later
entry_before room now next more k up high h l stands came =
    let rest = later room more (k + 1) (high - (k + 1)) in
    let entry = entry_bytes (date_at room k) (start_at room k + more) (size_at room k) in
    let word : (i : ℕ) → i < 5 + 3 * k → word_at now i ≡ word_at room i =
    λ i q. later_keeps room now more (k + 1) up high (omega arith) l stands i (omega arith) in
    let m : high - k ≡ suc (high - (k + 1)) = omega arith in
    rw (m, ← add-one k)
    (then_before room now next entry rest (8 + 12 * (k + up)) (8 + 12 * (k + 1 + up)) (omega (
      arith,
      entry_long (date_at room k) (start_at room k + more)
          (size_at room k),
    )) (omega (arith, later_length room more (k + 1) (high - (k + 1)))) stands
    (rw (word (2 + 3 * k) (omega arith), word (2 + 3 * k + 1) (omega arith), word (2 + 3 * k + 2) (omega arith)) at came))

-- entries by their words
pub later_same : (a b : List ℕ) (more k m : ℕ) → ((i : ℕ) → i < 2 + 3 * (k + m) → word_at a i ≡ word_at b i) → later a more k m ≡ later b more k m
unfolding later
later_same a b more k zero h = refl
later_same a b more k (suc m) h =
    rw (h (2 + 3 * k) (omega arith), h (2 + 3 * k + 1) (omega arith), h (2 + 3 * k + 2) (omega arith), later_same a b more (suc k) m (λ i q. h i (omega arith)))

pub earlier_length : (room : List ℕ) (less k m : ℕ) → length (earlier room less k m) ≡ 12 * m
unfolding earlier
earlier_length room less k zero = refl
earlier_length room less k (suc m) = simp (length-append, entry_long, earlier_length room less (suc k) m) (omega arith)

pub earlier_same : (a b : List ℕ) (less k m : ℕ) → ((i : ℕ) → 2 + 3 * k ≤ i → word_at a i ≡ word_at b i) → earlier a less k m ≡ earlier b less k m
unfolding earlier
earlier_same a b less k zero h = refl
earlier_same a b less k (suc m) h =
    rw (
      h (2 + 3 * k) (omega arith),
      h (2 + 3 * k + 1) (omega arith),
      h (2 + 3 * k + 2) (omega arith),
      earlier_same a b less (suc k) m
          (λ i q. h i (omega arith)),
    )

-- an entry more at the end
earlier_more : (room : List ℕ) (less k m : ℕ)
    → earlier room less k (suc m) ≡ earlier room less k m ++ entry_bytes (date_at room (k + m)) (start_at room (k + m) - less) (size_at room (k + m))
unfolding earlier
earlier_more room less k zero = grind (arith, common_steps)
earlier_more room less k (suc m) = grind (arith, common_steps, earlier_more room less (suc k) m)

-- the words of the entries behind those that were written
pub earlier_keeps : (room now : List ℕ) (less low k down : ℕ) → low ≤ k → 8 + 12 * k ≤ length room
    → now ≡ written room (8 + 12 * low) (earlier room less (low + down) (k - low)) → (i : ℕ) → 2 + 3 * k ≤ i → word_at now i ≡ word_at room i
earlier_keeps room now less low k down h l stands i q =
    let n = earlier_length room less (low + down) (k - low) in
    words_behind room now (8 + 12 * low) (earlier room less (low + down) (k - low)) (omega arith) stands i (omega arith)

-- an entry more behind those that were written
pub entry_behind : (room now next : List ℕ) (less low k down : ℕ) → low ≤ k → 8 + 12 * k + 12 ≤ length room
    → now ≡ written room (8 + 12 * low) (earlier room less (low + down) (k - low))
    → next ≡ written now (8 + 12 * k) (entry_bytes (date_at now (k + down)) (start_at now (k + down) - less) (size_at now (k + down)))
    → next ≡ written room (8 + 12 * low) (earlier room less (low + down) (k + 1 - low))
entry_behind room now next less low k down h l stands came =
    let n = earlier_length room less (low + down) (k - low) in
    let word : (i : ℕ) → 2 + 3 * k ≤ i → word_at now i ≡ word_at room i = earlier_keeps room now less low k down h (omega arith) stands in
    let m : k + 1 - low ≡ suc (k - low) = omega arith in
    let j : low + down + (k - low) ≡ k + down = omega arith in
    rw (m, earlier_more room less (low + down) (k - low), j)
    (then_behind room now next (entry_bytes (date_at room (k + down)) (start_at room (k + down) - less) (size_at room (k + down)))
    (earlier room less (low + down) (k - low)) (8 + 12 * low) (8 + 12 * k) (omega arith) (omega
    (arith, entry_long (date_at room (k + down)) (start_at room (k + down) - less) (size_at room (k + down)))) stands
    (rw (word (2 + 3 * (k + down)) (omega arith), word (2 + 3 * (k + down) + 1) (omega arith), word (2 + 3 * (k + down) + 2) (omega arith)) at came))

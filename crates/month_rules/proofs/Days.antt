-- The days of a book in order: one more turn of the statement and of the table.
use Prim.Native.Nat.{ℕ, suc, ◌+◌, ◌*◌, ◌-◌, ◌≤◌, ◌<◌, min}
use mathlib.Core.List.{List, [], ◌∷◌, ◌++◌, append_assoc, append-nil}
use mathlib.Core.Logic.{dite}
use mathlib.Core.Path.{◌≡◌, refl, sym, ap, ap₂, ◌∙◌}
use native.Mathlib.Decide.{dec_le}
use native.Mathlib.Nat.{le_refl}
use native.Mathlib.Numerals.{add-one}
use native.Mathlib.Omega.{arith}
use borrow.Rule.Slice.PartMut.{put_mid}
use lib.IntN.{ℤ}
use lib.ListN.{length, take, drop, set, length-append, length-drop, drop_of_length-le}
use lib.Seq.{take_all, length-take-le, take-append-add, drop-append-add}
use Rattle.exact.proofs.Filling.{Filling, fill_step}
use Rattle.verdict.specs.Verdict.{coded}
use Rattle.settlement.specs.Settlement.{settle_of}
use Rattle.moving.specs.Written.{part}
use Rattle.book.specs.Days.{Day}
use Rattle.book.specs.Read.{start_at, size_at, day_at, days_from}
use Rattle.month_rules.specs.Month.{numbers_taken, settled_day, places_of, settled_days}
use Rattle.month_rules.proofs.OneDay.{day_length, day_behind}

-- behind the parts of the days the statement stays
pub none_settled : (statement : List ℤ) → settled_days [] statement ≡ statement
unfolding settled_days
none_settled statement = refl

module _ (room : List ℕ) where
  pub file_is : (k : ℕ) → (day_at room k).file ≡ part room (4 * start_at room k) (4 * size_at room k)
  unfolding day_at
  file_is k = refl

  -- of the first n days, those from day i on
  pub days_next : (i n : ℕ) → i < n → days_from room i (n - i) ≡ day_at room i ∷ days_from room (i + 1) (n - (i + 1))
  unfolding days_from
  days_next i n h =
      let e : n - i ≡ suc (n - (i + 1)) = omega arith in
      rw (e, add-one i)

  pub days_done : (i n : ℕ) → n ≤ i → days_from room i (n - i) ≡ []
  unfolding days_from
  days_done i n h =
      let e : n - i ≡ 0 = omega arith in
      rw e

-- no more can be taken of a list than it has
clipped_take : {A : Type 0} (l : List A) (n m : ℕ) → m ≡ min n (length l) → take m l ≡ take n l
clipped_take l n m e =
    dite (dec_le n (length l))
    (λ h. let f : m ≡ n = omega arith in ap (λ k. take k l) f)
    (λ h. let f : length l ≤ m = omega arith in take_all m l f ∙ sym (take_all n l (omega arith)))

clipped_drop : {A : Type 0} (l : List A) (n m : ℕ) → m ≡ min n (length l) → drop m l ≡ drop n l
clipped_drop l n m e =
    dite (dec_le n (length l))
    (λ h. let f : m ≡ n = omega arith in ap (λ k. drop k l) f)
    (λ h. drop_of_length-le l {i = m} (omega arith) ∙ sym (drop_of_length-le l {i = n} (omega arith)))

-- The part from `to` on is lent, and comes back with as many numbers. Of it t are taken, or all where they are fewer.
module _ {A : Type 0} (xs came : List A) (to t numbers : ℕ) (inside : to ≤ length xs) (long : length came ≡ length xs - to)
    (clipped : numbers ≡ min t (length xs - to)) where
  back : put_mid to (length xs - to) xs came ≡ take to xs ++ came
  back =
      let none : drop (length xs - to) (drop to xs) ≡ [] = drop_of_length-le (drop to xs) {i = length xs - to} (rw length-drop (le_refl _)) in
      rw (none, append-nil)

  front : length (take to xs) ≡ to
  front = length-take-le to xs inside

  back-length : length (put_mid to (length xs - to) xs came) ≡ length xs
  back-length = ap length back ∙ length-append (take to xs) came ∙ omega (arith, front, long)

  numbers-are : numbers ≡ min t (length came)
  numbers-are = rw long clipped

  taken_back : take (to + numbers) (put_mid to (length xs - to) xs came) ≡ take to xs ++ take t came
  taken_back =
      let e : to + numbers ≡ length (take to xs) + numbers = omega (arith, front) in
      rw (e, back) (take-append-add (take to xs) came numbers ∙ ap (λ l. take to xs ++ l) (clipped_take came t numbers numbers-are))

  left_back : drop (to + numbers) (put_mid to (length xs - to) xs came) ≡ drop t came
  left_back =
      let e : to + numbers ≡ length (take to xs) + numbers = omega (arith, front) in
      rw (e, back) (drop-append-add (take to xs) came numbers ∙ clipped_drop came t numbers numbers-are)

-- The turn of a day: its file is settled into the part of the statement from `to` on, which comes back as `came`.
pub record Turn (day : Day) (file : List ℕ) (statement came : List ℤ) (to numbers : ℕ) : Type 0 where
  pub is : file ≡ day.file
  pub inside : to ≤ length statement
  pub settled : came ≡ settled_day file (take (length statement - to) (drop to statement))
  pub clipped : numbers ≡ min (numbers_taken file) (length (take (length statement - to) (drop to statement)))

module _ {day : Day} {file : List ℕ} {statement came : List ℤ} {to numbers : ℕ} (turn : Turn day file statement came to numbers) where
  -- the statement afterwards
  abbrev after : List ℤ
  after = put_mid to (length statement - to) statement came

  whole : take (length statement - to) (drop to statement) ≡ drop to statement
  whole = take_all (length statement - to) (drop to statement) (rw length-drop (le_refl _))

  came-is : came ≡ settled_day day.file (drop to statement)
  came-is = turn.settled ∙ ap₂ (λ f l. settled_day f l) turn.is whole

  long : length came ≡ length statement - to
  long = ap length came-is ∙ day_length day.file (drop to statement) ∙ length-drop to statement

  numbers-are-taken : numbers ≡ min (numbers_taken day.file) (length statement - to)
  numbers-are-taken =
      turn.clipped ∙ ap₂ (λ f l. min (numbers_taken f) (length l)) turn.is whole ∙ ap (min (numbers_taken day.file)) (length-drop to statement)

  pub length_turn : length after ≡ length statement
  length_turn = back-length statement came to (numbers_taken day.file) numbers turn.inside long numbers-are-taken

  pub inside_turn : to + numbers ≤ length after
  inside_turn = omega (arith, turn.inside, length_turn, numbers-are-taken)

  pub statement_turn : (days : List Day) (all : List ℤ) → take to statement ++ settled_days (day ∷ days) (drop to statement) ≡ all
      → take (to + numbers) after ++ settled_days days (drop (to + numbers) after) ≡ all
  unfolding settled_days
  statement_turn days all e =
      let t = numbers_taken day.file in
      let left : drop (to + numbers) after ≡ drop t (drop to statement) =
      left_back statement came to t numbers turn.inside long numbers-are-taken ∙ ap (drop t) came-is ∙ day_behind day.file (drop to statement) in
      let taken : take (to + numbers) after ≡ take to statement ++ take t (settled_day day.file (drop to statement)) =
      taken_back statement came to t numbers turn.inside long numbers-are-taken ∙ ap (λ l. take to statement ++ take t l) came-is in
      rw (taken, left) (rw append_assoc e)

  pub table_turn : (all lent table : List ℕ) (days : List Day) (i place : ℕ)
      → place ≡ coded (settle_of file (length (take (length statement - to) (drop to statement))))
      → Filling all lent table (places_of (length statement - to) (day ∷ days)) i → i < length table
      → Filling all lent (set table i place) (places_of (length after - (to + numbers)) days) (i + 1)
  unfolding places_of
  table_turn all lent table days i place e f h =
      let room : length (take (length statement - to) (drop to statement)) ≡ length statement - to = ap length whole ∙ length-drop to statement in
      let told : place ≡ coded (settle_of day.file (length statement - to)) = e ∙ ap₂ (λ f n. coded (settle_of f n)) turn.is room in
      let left : length after - (to + numbers) ≡ length statement - to - numbers_taken day.file = omega (arith, length_turn, numbers-are-taken) in
      rw (left, told) (fill_step (coded (settle_of day.file (length statement - to))) f h)

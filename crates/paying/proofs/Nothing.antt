-- A day of which nothing was collected: paid out over any bases, its table stays as it is, with 0 for each rest.
use Prim.Native.Nat.{ℕ, zero, suc, ◌+◌, ◌*◌, ◌≤◌, ◌<◌}
use mathlib.Core.List.{List}
use mathlib.Core.Path.{◌≡◌, refl, sym, ap, ap₂, ◌∙◌}
use native.Mathlib.Nat.{zero-add, add-zero}
use native.Mathlib.Numerals.{add-one}
use native.Mathlib.Omega.{arith}
use lib.IntN.{ℤ, pos, ◌+ℤ◌}
use lib.ListN.{length, get_or, take, drop, set, length-set, length-append, length-take, length-replicate, take-append-drop, replicate-append-replicate}
use mathlib.Core.List.{◌∷◌, ◌++◌, append_assoc}
use Rattle.exact.proofs.Filling.{drop_next}
use lib.Seq.{set-get_or, set-append_seam}
use lib.Bits.{bit_or, or_add_and, and_le_l, and_le_r}
use mir.Syntax.{w64}
use mir.Val.{Fits, SFits, of_z, to_z}
use Rattle.std.proofs.Math.Facts.{of_z-to_z}
use Rattle.exact.proofs.Machine.{zero_bits}
use Rattle.limits.specs.Ranges.{day_payments}
use Rattle.shares.specs.Shares.{sum}
use Rattle.paying.specs.Columns.{each, column, put_column, column_paid, paid_to, Zeros, rests_cleared}
use Rattle.paying.proofs.Columns.{each_length, column_kept, not_paid}
use Rattle.paying.proofs.Payments.{room, paid_nothing}

pub cleared_length : (n : ℕ) (table : List ℤ) (j : ℕ) → length (rests_cleared n j table) ≡ length table
unfolding rests_cleared
cleared_length n table zero = refl
cleared_length n table (suc j) = length-set (rests_cleared n j table) (day_payments * n + j) (pos 0) ∙ cleared_length n table j

-- the rests of the first m columns filled with zeros
pub cleared_is : (n : ℕ) (table : List ℤ) (m : ℕ) → day_payments * n + m ≤ length table
    → take (day_payments * n) table ++ (room m ++ drop (day_payments * n + m) table) ≡ rests_cleared n m table
unfolding rests_cleared
cleared_is n table zero h = rw add-zero (take-append-drop (day_payments * n) table)
cleared_is n table (suc m) h =
    let at = day_payments * n in
    let front = take at table ++ room m in
    let long : length front ≡ at + m = omega (arith, length-append (take at table) (room m), length-take at table, length-replicate m (pos 0)) in
    let next : drop (at + m) table ≡ get_or table (at + m) (pos 0) ∷ drop (at + suc m) table =
    drop_next table (at + m) (pos 0) (omega arith) ∙ ap (λ k. get_or table (at + m) (pos 0) ∷ drop k table) (omega arith) in
    let rest = drop (at + suc m) table in
    let more : room m ++ (pos 0 ∷ rest) ≡ room (suc m) ++ rest =
    sym (append_assoc (room m) (room 1) rest) ∙ ap (λ (l : List ℤ). l ++ rest) (replicate-append-replicate m 1 (pos 0) ∙ ap room (add-one m)) in
    let front-is : rests_cleared n m table ≡ front ++ (get_or table (at + m) (pos 0) ∷ rest) =
    sym (cleared_is n table m (omega arith)) ∙ ap (λ (l : List ℤ). take at table ++ (room m ++ l)) next ∙ sym (append_assoc (take at table) (room m) _) in
    sym
    (ap (λ (l : List ℤ). set l (at + m) (pos 0)) front-is
    ∙ ap (λ (k : ℕ). set (front ++ (get_or table (at + m) (pos 0) ∷ rest)) k (pos 0)) (sym long)
    ∙ set-append_seam front (get_or table (at + m) (pos 0)) rest (pos 0)
    ∙ append_assoc (take at table) (room m) (pos 0 ∷ rest)
    ∙ ap (λ (l : List ℤ). take at table ++ l) more)

-- a number joined bit by bit
module _ (joined : ℕ) (z : ℤ) (fits : SFits w64 z) where
  pub joined_zero : Fits w64 (bit_or joined (of_z w64 z)) → to_z w64 (bit_or joined (of_z w64 z)) ≡ pos 0 → (to_z w64 joined ≡ pos 0) × (z ≡ pos 0)
  joined_zero whole e =
      let bits : bit_or joined (of_z w64 z) ≡ 0 = sym (of_z-to_z whole) ∙ ap (of_z w64) e in
      let sum = or_add_and joined (of_z w64 z) in
      let none : joined ≡ 0 = omega (arith, and_le_r joined (of_z w64 z)) in
      (ap (to_z w64) none, zero_bits fits (omega (arith, and_le_l joined (of_z w64 z))))

  pub zero_joined : Fits w64 joined → to_z w64 joined ≡ pos 0 → z ≡ pos 0 → to_z w64 (bit_or joined (of_z w64 z)) ≡ pos 0
  zero_joined own e none =
      let bits : joined ≡ 0 = sym (of_z-to_z own) ∙ ap (of_z w64) e in
      rw (bits, none)

-- zeros add up to 0
pub sum_nothing : (number : ℕ → ℤ) (k n : ℕ) → ((i : ℕ) → i < k + n → number i ≡ pos 0) → sum (each number k n) ≡ pos 0
unfolding each sum
sum_nothing number k zero none = refl
sum_nothing number k (suc n) none = ap₂ ◌+ℤ◌ (none k (omega arith)) (sum_nothing number (suc k) n (λ i p. none i (omega arith)))

-- zeros put into a column of zeros change the number behind them alone
put_nothing : (n at : ℕ) (table : List ℤ) → ((k : ℕ) → k < n → get_or table (day_payments * k + at) (pos 0) ≡ pos 0)
    → put_column at (room (suc n)) table ≡ set table (day_payments * n + at) (pos 0)
unfolding put_column
put_nothing zero at table none = rw (zero-add at)
put_nothing (suc n) at table none =
    let same : set table at (pos 0) ≡ table =
    ap (set table at) (sym (none 0 (omega arith)) ∙ ap (λ (p : ℕ). get_or table p (pos 0)) (zero-add at)) ∙ set-get_or table at (pos 0) in
    let place : (k : ℕ) → day_payments * k + (at + day_payments) ≡ day_payments * suc k + at = λ k. omega arith in
    ap (put_column (at + day_payments) (room (suc n))) same
    ∙ put_nothing n (at + day_payments) table (λ k less. rw (place k) (none (suc k) (omega arith)))
    ∙ ap (λ (p : ℕ). set table p (pos 0)) (place n)

module _ (bases : List ℕ) (n : ℕ) (table : List ℤ) (none : Zeros (day_payments * n) table) where
  column-paid : (j : ℕ) → j < day_payments → column_paid bases n j (paid_to bases n j table) ≡ room (suc n)
  column-paid j below =
      let nothing : sum (column (pos 0) (paid_to bases n j table) n j) ≡ pos 0 =
      ap sum (column_kept bases n table j below) ∙ sum_nothing (λ k. get_or table (day_payments * k + j) (pos 0)) 0 n (λ k p. none _ (omega arith)) in
      let count = each_length (λ k. get_or bases (day_payments * k + j) 0) 0 n in
      rw nothing (paid_nothing (column 0 bases n j) ∙ ap room (ap (λ m. m + 1) count ∙ add-one n))

  cleared : (j : ℕ) → j ≤ day_payments → paid_to bases n j table ≡ rests_cleared n j table
  unfolding paid_to rests_cleared
  cleared zero most = refl
  cleared (suc j) most =
      let before = paid_to bases n j table in
      ap (λ l. put_column j l before) (column-paid j (omega arith))
      ∙ put_nothing n j before (λ k less.
      not_paid bases n table j (day_payments * k + j) (pos 0) (λ m i under lower e. omega arith) ∙ none _ (omega arith))
      ∙ ap (λ l. set l (day_payments * n + j) (pos 0)) (cleared j (omega arith))

  pub nothing_paid : paid_to bases n day_payments table ≡ rests_cleared n day_payments table
  nothing_paid = cleared day_payments (omega arith)

-- The columns of a table: numbers in order, what stands in a column, and numbers put into one.
use Prim.Native.Nat.{ℕ, zero, suc, ◌+◌, ◌*◌, ◌-◌, ◌≤◌, ◌<◌}
use mathlib.Core.List.{List, [], ◌∷◌}
use mathlib.Core.Logic.{dite}
use mathlib.Core.Path.{◌≡◌, refl, sym, ap, ap₂, ◌∙◌}
use native.Mathlib.Decide.{ℕ_discrete}
use native.Mathlib.Nat.{add-zero, zero-add}
use native.Mathlib.Numerals.{add-one}
use native.Mathlib.Omega.{arith}
use lib.IntN.{ℤ, pos, ◌+ℤ◌, +ℤ_assoc}
use lib.ListN.{length, get_or, set, length-set, length-append}
use lib.Seq.{get_or-set_same, get_or-set_other}
use Rattle.limits.specs.Ranges.{day_payments}
use Rattle.shares.specs.Shares.{shares, sum}
use Rattle.shares.proofs.Length.{shares_length}
use Rattle.paying.specs.Paid.{paid_of}
use Rattle.paying.specs.Columns.{each, column, put_column, column_paid, paid_to}

-- ---- numbers in order

module _ {A : Type 0} (number : ℕ → A) where
  pub each_next : (k n : ℕ) → k < n → each number k (n - k) ≡ number k ∷ each number (k + 1) (n - (k + 1))
  unfolding each
  each_next k n below =
      let e : n - k ≡ suc (n - (k + 1)) = omega arith in
      rw (e, add-one k)

  pub each_done : (k n : ℕ) → n ≤ k → each number k (n - k) ≡ []
  unfolding each
  each_done k n past =
      let e : n - k ≡ 0 = omega arith in
      rw e

  pub each_length : (k n : ℕ) → length (each number k n) ≡ n
  unfolding each
  each_length k zero = refl
  each_length k (suc n) = ap suc (each_length (suc k) n)

  each_at : (k n i : ℕ) (none : A) → i < n → get_or (each number k n) i none ≡ number (k + i)
  unfolding each
  each_at k zero i none below = absurd (omega arith)
  each_at k (suc n) zero none below = rw (add-zero k)
  each_at k (suc n) (suc i) none below =
      let e : k + suc i ≡ suc k + i = omega arith in
      rw e (each_at (suc k) n i none (omega arith))

  pub each_there : (n i : ℕ) (none : A) → i < n → get_or (each number 0 n) i none ≡ number i
  each_there n i none below = each_at 0 n i none below ∙ ap number (zero-add i)

-- a number more of those that are added
pub next_sum : (numbers : ℕ → ℤ) (k n : ℕ) (before : ℤ) {whole : ℤ} → k < n → before +ℤ sum (each numbers k (n - k)) ≡ whole
    → (before +ℤ numbers k) +ℤ sum (each numbers (k + 1) (n - (k + 1))) ≡ whole
unfolding sum
next_sum numbers k n before below e =
    +ℤ_assoc before (numbers k) (sum (each numbers (k + 1) (n - (k + 1)))) ∙ rw (each_next numbers k n below) at e

-- numbers that are the same
pub each_same : {A : Type 0} (one other : ℕ → A) (k n : ℕ) → ((i : ℕ) → i < k + n → one i ≡ other i) → each one k n ≡ each other k n
unfolding each
each_same one other k zero same = refl
each_same one other k (suc n) same = ap₂ ◌∷◌ (same k (omega arith)) (each_same one other (suc k) n (λ i p. same i (omega arith)))

-- ---- numbers put into a column

pub put_length : (at : ℕ) (numbers table : List ℤ) → length (put_column at numbers table) ≡ length table
unfolding put_column
put_length at [] table = refl
put_length at (number ∷ numbers) table = put_length (at + day_payments) numbers (set table at number) ∙ length-set table at number

-- every other place is as it was
pub put_other : (at : ℕ) (numbers table : List ℤ) (p : ℕ) (none : ℤ) → ((k : ℕ) → k < length numbers → p ≡ day_payments * k + at → ⊥)
    → get_or (put_column at numbers table) p none ≡ get_or table p none
unfolding put_column
put_other at [] table p none apart = refl
put_other at (number ∷ numbers) table p none apart =
    put_other (at + day_payments) numbers (set table at number) p none (λ k below e. apart (suc k) (omega arith) (omega arith))
    ∙ get_or-set_other table at p number none (λ e. apart 0 (omega arith) (omega arith))

-- row k has number k
pub put_there : (at : ℕ) (numbers table : List ℤ) (k : ℕ) (none : ℤ) → k < length numbers → day_payments * k + at < length table
    → get_or (put_column at numbers table) (day_payments * k + at) none ≡ get_or numbers k none
unfolding put_column
put_there at [] table k none below inside = absurd (omega arith)
put_there at (number ∷ numbers) table zero none below inside =
    put_other (at + day_payments) numbers (set table at number) (day_payments * 0 + at) none (λ k less e. omega arith)
    ∙ ap (λ (p : ℕ). get_or (set table at number) p none) (zero-add at)
    ∙ get_or-set_same table at number none (omega arith)
put_there at (number ∷ numbers) table (suc k) none below inside =
    let e : day_payments * suc k + at ≡ day_payments * k + (at + day_payments) = omega arith in
    rw e (put_there (at + day_payments) numbers (set table at number) k none (omega arith) (rw length-set (omega arith)))

-- ---- the table once columns are paid out

pub paid_length : (collected : ℤ) (basis : List ℕ) → length (paid_of collected basis) ≡ length basis + 1
unfolding paid_of
paid_length collected basis =
    length-append (shares collected basis) _ ∙ ap (λ (n : ℕ). n + 1) (shares_length collected basis)

module _ (bases : List ℕ) (n : ℕ) (table : List ℤ) where
  pub paid_to_length : (j : ℕ) → length (paid_to bases n j table) ≡ length table
  unfolding paid_to
  paid_to_length zero = refl
  paid_to_length (suc j) = put_length j _ (paid_to bases n j table) ∙ paid_to_length j

  rows : (j : ℕ) (xs : List ℤ) → length (column_paid bases n j xs) ≡ n + 1
  rows j xs = paid_length (sum (column (pos 0) xs n j)) (column 0 bases n j) ∙ ap (λ (m : ℕ). m + 1) (each_length (λ k. get_or bases (day_payments * k + j) 0) 0 n)

  -- a place of a column that is not paid out yet, or behind the rests, is as it was
  pub not_paid : (j p : ℕ) (none : ℤ) → ((k i : ℕ) → k < n + 1 → i < j → p ≡ day_payments * k + i → ⊥)
      → get_or (paid_to bases n j table) p none ≡ get_or table p none
  unfolding paid_to
  not_paid zero p none apart = refl
  not_paid (suc j) p none apart =
      let before = paid_to bases n j table in
      put_other j (column_paid bases n j before) before p none (λ k below e. apart k j (omega (arith, rows j before)) (omega arith) e)
      ∙ not_paid j p none (λ k i less under e. apart k i less (omega arith) e)

  -- what stands in a column before it is paid out is what stood there at first
  pub column_kept : (j : ℕ) → j < day_payments → column (pos 0) (paid_to bases n j table) n j ≡ column (pos 0) table n j
  column_kept j below =
      each_same (λ k. get_or (paid_to bases n j table) (day_payments * k + j) (pos 0)) (λ k. get_or table (day_payments * k + j) (pos 0)) 0 n
      (λ k less. not_paid j (day_payments * k + j) (pos 0) (λ m i under less e. omega arith))

  -- row k of a column that is paid out
  pub paid_there : (m j k : ℕ) → day_payments * (n + 1) ≤ length table → m ≤ day_payments → j < m → k < n + 1
      → get_or (paid_to bases n m table) (day_payments * k + j) (pos 0) ≡ get_or (column_paid bases n j table) k (pos 0)
  unfolding paid_to
  paid_there zero j k room most below row = absurd (omega arith)
  paid_there (suc m) j k room most below row =
      let before = paid_to bases n m table in
      dite (ℕ_discrete j m)
      (λ e. ap (λ (i : ℕ). get_or (put_column m (column_paid bases n m before) before) (day_payments * k + i) (pos 0)) e
      ∙ put_there m (column_paid bases n m before) before k (pos 0) (omega (arith, rows m before)) (omega (arith, paid_to_length m))
      ∙ ap (λ (l : List ℤ). get_or (paid_of (sum l) (column 0 bases n m)) k (pos 0)) (column_kept m (omega arith))
      ∙ ap (λ (i : ℕ). get_or (column_paid bases n i table) k (pos 0)) (sym e))
      (λ other. put_other m (column_paid bases n m before) before (day_payments * k + j) (pos 0) (λ r less e. omega arith)
      ∙ paid_there m j k room (omega arith) (omega arith) row)

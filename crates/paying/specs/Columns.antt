-- A table of payments: a row for each area, of a number for each hour and direction, and behind them a row for the rests. It is paid out column by column.
use Rattle.std.specs.Prelude.{ℕ, zero, suc, ◌+◌, ◌*◌, ◌<◌, List, [], ◌∷◌, ◌≡◌, ℤ, pos, get_or, set}
use Rattle.limits.specs.Ranges.{day_payments}
use Rattle.shares.specs.Shares.{sum}
use Rattle.paying.specs.Paid.{paid_of}

-- n numbers, from number k on
unfoldable pub each : {A : Type 0} → (ℕ → A) → ℕ → ℕ → List A
each number k zero = []
each number k (suc n) = number k ∷ each number (suc k) n

-- column j of the first n rows; `none` is no number of theirs
abbrev pub column : {A : Type 0} → A → List A → ℕ → ℕ → List A
column none table n j = each (λ k. get_or table (day_payments * k + j) none) 0 n

-- numbers put into a column, from place `at` of the table on
unfoldable pub put_column : ℕ → List ℤ → List ℤ → List ℤ
put_column at [] table = table
put_column at (number ∷ numbers) table = put_column (at + day_payments) numbers (set table at number)

module _ (bases : List ℕ) (n : ℕ) where
  -- what column j of the first n rows adds up to is paid out over column j of the bases
  abbrev pub column_paid : ℕ → List ℤ → List ℤ
  column_paid j table = paid_of (sum (column (pos 0) table n j)) (column 0 bases n j)

  -- the table once the first j columns are paid out
  unfoldable pub paid_to : ℕ → List ℤ → List ℤ
  paid_to zero table = table
  paid_to (suc j) table = put_column j (column_paid j (paid_to j table)) (paid_to j table)

-- ---- where nothing was collected

-- the first m numbers are 0
abbrev pub Zeros : ℕ → List ℤ → Type 0
Zeros m table = (p : ℕ) → p < m → get_or table p (pos 0) ≡ pos 0

-- the table once the rests of the first j columns, behind n rows, are 0
unfoldable pub rests_cleared : (n j : ℕ) → List ℤ → List ℤ
rests_cleared n zero table = table
rests_cleared n (suc j) table = set (rests_cleared n j table) (day_payments * n + j) (pos 0)

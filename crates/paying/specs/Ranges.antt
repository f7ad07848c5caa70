-- What paying out asks of a table: it has a place for every row, and what is collected times the basis fits 64 bits.
use Rattle.std.specs.Prelude.{ℕ, ◌+◌, ◌*◌, ◌≤◌, ◌<◌, List, ℤ, pos, nat_abs, length, get_or}
use Rattle.exact.specs.Total.{total}
use Rattle.limits.specs.Ranges.{day_payments, most_basis, proved_areas}
use Rattle.limits.specs.Editions.{most_areas}
use Rattle.paying.specs.Columns.{column}

-- what one area can add to a collected amount, in cents
abbrev pub most_collected : ℕ
most_collected = 7200000000

-- the numbers of column j lie within the table, and each is one area's
pub record ColumnKept (table : List ℤ) (n j : ℕ) : Type 0 where
  pub few : n ≤ proved_areas
  pub below : j < day_payments
  pub room : day_payments * n ≤ length table
  pub each : (k : ℕ) → k < n → nat_abs (get_or table (day_payments * k + j) (pos 0)) ≤ most_collected

-- and with the bases: a row more for the rests, and the basis of the column in its range
pub record TableKept (bases : List ℕ) (n j : ℕ) (table : List ℤ) : Type 0 where
  pub areas : n ≤ most_areas
  pub collected : ColumnKept table n j
  pub rests : day_payments * (n + 1) ≤ length table
  pub counted : day_payments * n ≤ length bases
  pub basis : total (column 0 bases n j) ≤ most_basis

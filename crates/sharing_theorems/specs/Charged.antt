-- What the theorems about the sharing call speak of: the charges that it leaves, and rows of which neighbours are merged into one.
use Rattle.std.specs.Prelude.{ℕ, ◌+◌, ◌≤◌, ◌<◌, List, ℤ, length, get_or, take}
use Rattle.exact.specs.Total.{total}
use Rattle.limits.specs.Ranges.{largest_number}
use Rattle.shares.specs.Shares.{merged_at}
use Rattle.columns.specs.Columns.{coordinator_above, charges_after}
use Rattle.sharing.specs.declared.Row.{Row}
use Rattle.sharing.specs.Rows.{coordinator_column, demand_column, share_of}

-- the lent charges after the call, as `SharedRows` promises them
abbrev pub charges_left : ℤ → List Row → List ℤ → List ℤ
charges_left amount rows charges = charges_after (share_of amount rows (length charges)) amount (demand_column rows) charges

-- those of the rows, without the charges past them
unfoldable pub row_charges : ℤ → List Row → List ℤ → List ℤ
row_charges amount rows charges = take (length rows) (charges_left amount rows charges)

-- rows replaced by one: a number, and their demands added
abbrev pub merged_row : ℕ → List Row → Row
merged_row number rows = record { coordinator = number; demand = total (demand_column rows) }

-- the n rows from place i on replaced by one
abbrev pub merged_rows : (i n number : ℕ) → List Row → List Row
merged_rows i n number = merged_at (merged_row number) i n

-- they may be one, under a number that keeps the order
pub record Mergeable (i n number : ℕ) (rows : List Row) : Type 0 where
  pub some : 1 ≤ n
  pub inside : i + n ≤ length rows
  pub above : coordinator_above (coordinator_column rows) i < number
  pub under : i + n < length rows → number < get_or (coordinator_column rows) (i + n) 0
  pub small : number ≤ largest_number

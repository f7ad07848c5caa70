-- The copy of a table of rows that the sharing call works on: a column for each field. No public promise speaks of it.
use Rattle.std.specs.Prelude.{ℕ, List, ◌++◌, ◌≡◌, ℤ, length, take, drop, replicate}
use Rattle.verdict.specs.Verdict.{Verdict}
use Rattle.limits.specs.Ranges.{most_coordinators}
use Rattle.columns.specs.Columns.{columns_rule, charges_after}
use Rattle.sharing.specs.declared.Row.{Row}
use Rattle.sharing.specs.declared.Table.{Table}
use Rattle.sharing.specs.Rows.{coordinator_column, demand_column, row_count_rule}

unfoldable pub empty_column : List ℕ
empty_column = replicate most_coordinators 0

-- the numbers of the first 64 rows, and zeros behind
unfoldable pub column : List ℕ → List ℕ
column numbers = let first = take most_coordinators numbers in first ++ drop (length first) empty_column

-- how many rows there are, and the columns of the first ones
abbrev pub table_of : List Row → Table
table_of rows = record { count = length rows; coordinators = column (coordinator_column rows); demands = column (demand_column rows) }

-- what is promised of the copy, as `SharedRows` of the rows
abbrev pub SharedTable : ℤ → Table → List ℤ → Verdict → List ℤ → Type 0
SharedTable amount table charges answer after =
    let demands = take table.count table.demands in
    (answer ≡ row_count_rule table.count (columns_rule amount (take table.count table.coordinators) demands (length charges)))
    × (after ≡ charges_after answer amount demands charges)

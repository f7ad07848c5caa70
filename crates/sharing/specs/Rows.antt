-- The sharing call (docs/RULES.md, section 11), over a table of rows, each a coordinator number and a demand: what it refuses, and the charges afterwards.
use Rattle.std.specs.Prelude.{ℕ, ◌&&◌, List, map, ◌≡◌, leb, ℤ, length}
use Rattle.verdict.specs.Verdict.{Verdict}
use Rattle.verdict.specs.declared.Refusal.TheVariants.{BadLength}
use Rattle.verdict.specs.First.{rule◌else◌then◌}
use Rattle.limits.specs.Ranges.{most_coordinators}
use Rattle.columns.specs.Columns.{columns_rule, charges_after}
use Rattle.sharing.specs.declared.Row.{Row}

abbrev pub coordinator_column : List Row → List ℕ
coordinator_column = map (λ (row : Row). row.coordinator)

abbrev pub demand_column : List Row → List ℕ
demand_column = map (λ (row : Row). row.demand)

-- how many rows a caller may hold by value
abbrev pub rows_by_value : ℕ
rows_by_value = 70

-- ---- the call

-- "1 unless 1 to 64 rows", and then the rest
abbrev pub row_count_rule : ℕ → Verdict → Verdict
row_count_rule count rest = rule leb 1 count && leb count most_coordinators else BadLength then rest

-- an amount over these rows, into `room` charges
abbrev pub share_of : ℤ → List Row → ℕ → Verdict
share_of amount rows room = row_count_rule (length rows) (columns_rule amount (coordinator_column rows) (demand_column rows) room)

-- ---- what is promised: the answer, and the charges afterwards

abbrev pub SharedRows : ℤ → List Row → List ℤ → Verdict → List ℤ → Type 0
SharedRows amount rows charges answer after =
    (answer ≡ share_of amount rows (length charges)) × (after ≡ charges_after answer amount (demand_column rows) charges)

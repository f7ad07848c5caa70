-- Rows that the sharing call accepts are accepted with neighbours replaced by one, under a number that keeps the order.
use Prim.Native.Nat.{ℕ, ◌+◌, ◌≤◌, ◌<◌}
use mathlib.Core.Bool.{true, ◌&&◌, ◌||◌}
use mathlib.Core.List.{List}
use mathlib.Core.Path.{◌≡◌, sym, ap, ◌∙◌}
use native.Mathlib.Omega.{arith}
use lib.Dec.{eqb, leb, ltb}
use lib.IntN.{ℤ, nat_abs}
use lib.ListN.{length, get_or, take, drop, length-map, take-append-drop}
use borrow.Author.Tests.{lt-ltb, le-leb, leb-true, ltb-true}
use Rattle.verdict.specs.Verdict.{number_of}
use Rattle.verdict.specs.First.{◌or_else◌}
use Rattle.verdict.proofs.First.{kept, both, or_first, or_second, scan_each, all_accept, or_next}
use Rattle.exact.specs.Total.{total}
use Rattle.exact.proofs.Totals.{total_append, total_next}
use Rattle.limits.specs.Ranges.{most_coordinators, most_demand, most_amount, largest_number}
use Rattle.shares.specs.Shares.{merged_at}
use Rattle.shares.proofs.Merged.{merged_length, total_merged}
use Rattle.shares.proofs.Rising.{RisesAt, merged_rises}
use Rattle.columns.specs.Columns.{row_rule, coordinator_above, row_rule_at, rows_rule, charges_rule, columns_rule}
use Rattle.columns.proofs.Accepted.{rows_total}
use Rattle.sharing.specs.declared.Row.{Row}
use Rattle.sharing.specs.Rows.{coordinator_column, demand_column, share_of}
use Rattle.sharing_theorems.specs.Charged.{merged_row, merged_rows, Mergeable}
use Rattle.sharing_theorems.proofs.Merged.{demands_merged, coordinators_merged}

-- ---- the rows' rules

row_accepts : (place before running coordinator demand : ℕ) → before < coordinator → coordinator ≤ largest_number → running + demand ≤ most_demand
    → number_of (row_rule place before running coordinator demand) ≡ 0
unfolding ◌or_else◌
row_accepts place before running coordinator demand above small within =
    simp (lt-ltb _ _ above, le-leb _ _ small, le-leb demand most_demand (omega arith), le-leb _ _ within)

module _ (coordinators demands : List ℕ) (same : length coordinators ≡ length demands) where
  rows-rise : number_of (rows_rule coordinators demands) ≡ 0 → (i : ℕ) → i < length coordinators → RisesAt coordinators i
  unfolding rows_rule row_rule_at
  rows-rise z i p =
      let each = or_first _ _ (scan_each (row_rule_at coordinators demands) (length demands) z i (omega (arith, same))) in
      let c = get_or coordinators i 0 in
      let k = both _ _ (kept (ltb (coordinator_above coordinators i) c && leb c largest_number) _ _ each).0 in
      (ltb-true (coordinator_above coordinators i) c k.0, leb-true _ _ k.1)

  rows-accept : ((i : ℕ) → i < length coordinators → RisesAt coordinators i) → total demands ≤ most_demand → number_of (rows_rule coordinators demands) ≡ 0
  unfolding rows_rule row_rule_at
  rows-accept rise within =
      all_accept (row_rule_at coordinators demands) (length demands)
      (λ i p.
      let here = rise i (omega (arith, same)) in
      let whole = sym (total_append (take (i + 1) demands) (drop (i + 1) demands)) ∙ ap total (take-append-drop (i + 1) demands) in
      row_accepts i (coordinator_above coordinators i) (total (take i demands)) (get_or coordinators i 0) (get_or demands i 0)
      here.0 here.1 (omega (arith, whole, total_next demands i (omega arith))))

-- ---- the call

module _ (i n number : ℕ) (amount : ℤ) (rows : List Row) (room : ℕ) (g : Mergeable i n number rows) (z : number_of (share_of amount rows room) ≡ 0) where
  abbrev cs : List ℕ
  cs = coordinator_column rows

  abbrev ds : List ℕ
  ds = demand_column rows

  long : length cs ≡ length rows
  long = length-map rows _

  deep : length ds ≡ length rows
  deep = length-map rows _

  -- ---- what the acceptance of the rows tells

  counted : (length rows ≤ most_coordinators) × (number_of (columns_rule amount cs ds room) ≡ 0)
  counted =
      let k = kept (leb 1 (length rows) && leb (length rows) most_coordinators) _ _ z in
      (leb-true (length rows) most_coordinators (both (leb 1 (length rows)) (leb (length rows) most_coordinators) k.0).1, k.1)

  told : (leb (nat_abs amount) most_amount ≡ true) × ((number_of (rows_rule cs ds) ≡ 0) × (number_of (charges_rule amount (total ds) (length ds) room) ≡ 0))
  unfolding columns_rule
  told =
      let k = kept (leb (nat_abs amount) most_amount) _ _ counted.1 in
      (k.0, (or_first (rows_rule cs ds) _ k.1, or_second (rows_rule cs ds) _ k.1))

  paid : (length ds ≤ room) × ((eqb (nat_abs amount) 0 || ltb 0 (total ds)) ≡ true)
  paid =
      let k = kept (leb (length ds) room) _ _ told.1.1 in
      (leb-true (length ds) room k.0, (kept (eqb (nat_abs amount) 0 || ltb 0 (total ds)) _ _ k.1).0)

  -- ---- the same of the merged rows

  fewer : length (merged_rows i n number rows) + n ≡ length rows + 1
  fewer = merged_length (merged_row number) i n rows g.inside

  rows-accepted : number_of (rows_rule (merged_at (λ _. number) i n cs) (merged_at total i n ds)) ≡ 0
  rows-accepted =
      let same = long ∙ sym deep in
      let shorter = merged_length (λ _. number) i n cs (omega (arith, long, g.inside)) in
      let shorter' = merged_length total i n ds (omega (arith, deep, g.inside)) in
      rows-accept (merged_at (λ _. number) i n cs) (merged_at total i n ds) (omega (arith, shorter, shorter', same))
      (merged_rises n number g.small i cs (rows-rise cs ds same told.1.0) (omega (arith, long, g.inside))
      g.above (λ p. g.under (omega (arith, long))))
      (rw (total_merged i n ds) (rows_total cs ds told.1.0))

  charges-accepted : number_of (charges_rule amount (total (merged_at total i n ds)) (length (merged_at total i n ds)) room) ≡ 0
  charges-accepted =
      let shorter = merged_length total i n ds (omega (arith, deep, g.inside)) in
      let fits : length (merged_at total i n ds) ≤ room = omega (arith, shorter, g.some, paid.0) in
      simp (le-leb _ _ fits, total_merged i n ds, paid.1)

  pub merged_accepted : number_of (share_of amount (merged_rows i n number rows) room) ≡ 0
  unfolding columns_rule
  merged_accepted =
      let some : 1 ≤ length (merged_rows i n number rows) = omega (arith, fewer, g.inside) in
      let most : length (merged_rows i n number rows) ≤ most_coordinators = omega (arith, fewer, g.some, counted.0) in
      rw (coordinators_merged i n number rows, demands_merged i n number rows)
      (simp (le-leb _ _ some, le-leb _ _ most, told.0)
      (ap number_of (or_next _ _ rows-accepted) ∙ charges-accepted))

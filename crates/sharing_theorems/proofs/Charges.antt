-- Where the sharing call accepts, the rows' charges that it leaves are the shares of the amount.
use Prim.Native.Nat.{ℕ}
use mathlib.Core.Bool.{◌&&◌}
use mathlib.Core.List.{List, ◌++◌}
use mathlib.Core.Path.{◌≡◌, ap, ◌∙◌}
use lib.Dec.{leb}
use lib.IntN.{ℤ}
use lib.ListN.{length, take, drop, length-map}
use lib.Seq.{take_at}
use borrow.Author.Tests.{eq-eqb}
use Rattle.verdict.specs.Verdict.{number_of}
use Rattle.verdict.proofs.First.{kept}
use Rattle.limits.specs.Ranges.{most_coordinators}
use Rattle.shares.specs.Shares.{shares}
use Rattle.shares.proofs.Length.{shares_length}
use Rattle.columns.proofs.Accepted.{Accepted, columns_accepted}
use Rattle.sharing.specs.declared.Row.{Row}
use Rattle.sharing.specs.Rows.{coordinator_column, demand_column, share_of}
use Rattle.sharing_theorems.specs.Charged.{charges_left, row_charges}

module _ (amount : ℤ) (rows : List Row) where
  abbrev demands : List ℕ
  demands = demand_column rows

  pub accepted : (room : ℕ) → number_of (share_of amount rows room) ≡ 0 → Accepted amount demands room
  accepted room z =
      let counted = kept (leb 1 (length rows) && leb (length rows) most_coordinators) _ _ z in
      columns_accepted amount (coordinator_column rows) demands room counted.1

  pub charged : (charges : List ℤ) → number_of (share_of amount rows (length charges)) ≡ 0 → row_charges amount rows charges ≡ shares amount demands
  unfolding row_charges
  charged charges z =
      let left : charges_left amount rows charges ≡ shares amount demands ++ drop (length demands) charges = simp (eq-eqb _ _ z) in
      ap (take (length rows)) left ∙ take_at (shares amount demands) _ (length rows) (shares_length amount demands ∙ length-map rows _)

-- Whenever the sharing call accepts and there is demand, each charge that it leaves is less than one cent from its exact share: "T × charge and A × D differ
-- by less than T."
use Prim.Native.Nat.{ℕ, ◌<◌}
use mathlib.Core.List.{List}
use mathlib.Core.Path.{◌≡◌}
use lib.IntN.{ℤ, pos, nat_abs}
use lib.ListN.{length, get_or, length-map}
use Rattle.verdict.specs.Verdict.{number_of}
use Rattle.exact.specs.Total.{total}
use Rattle.shares.specs.Shares.{apart}
use Rattle.shares.proofs.WithinACent.{within_a_cent}
use Rattle.sharing.specs.declared.Row.{Row}
use Rattle.sharing.specs.Rows.{demand_column, share_of}
use Rattle.sharing_theorems.specs.Charged.{row_charges}
use Rattle.sharing_theorems.proofs.Charges.{charged}

pub charges_within_a_cent : (amount : ℤ) (rows : List Row) (charges : List ℤ) → number_of (share_of amount rows (length charges)) ≡ 0
    → 0 < total (demand_column rows) → (i : ℕ) → i < length rows
    → nat_abs (apart (total (demand_column rows)) amount (get_or (row_charges amount rows charges) i (pos 0)) (get_or (demand_column rows) i 0))
    < total (demand_column rows)
charges_within_a_cent amount rows charges z some i p =
    rw (charged amount rows charges z) (within_a_cent amount (demand_column rows) i some (rw (length-map rows _) p))

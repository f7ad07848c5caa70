-- The charges that the sharing call leaves add up to the amount whenever it accepts.
use mathlib.Core.List.{List}
use mathlib.Core.Path.{◌≡◌, ap, ◌∙◌}
use lib.IntN.{ℤ}
use lib.ListN.{length}
use Rattle.verdict.specs.Verdict.{number_of}
use Rattle.shares.specs.Shares.{sum}
use Rattle.shares.proofs.AddsUp.{adds_up}
use Rattle.sharing.specs.declared.Row.{Row}
use Rattle.sharing.specs.Rows.{demand_column, share_of}
use Rattle.sharing_theorems.specs.Charged.{row_charges}
use Rattle.sharing_theorems.proofs.Charges.{accepted, charged}

pub charges_add_up : (amount : ℤ) (rows : List Row) (charges : List ℤ) → number_of (share_of amount rows (length charges)) ≡ 0
    → sum (row_charges amount rows charges) ≡ amount
charges_add_up amount rows charges z =
    ap sum (charged amount rows charges z) ∙ adds_up amount (demand_column rows) (accepted amount rows (length charges) z).demand_some

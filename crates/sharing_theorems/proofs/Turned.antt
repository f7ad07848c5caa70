-- With the amount negated the sharing call answers the same, and the charges that it leaves are negated.
use Prim.Native.Nat.{ℕ}
use mathlib.Core.List.{List, map}
use mathlib.Core.Path.{◌≡◌, sym, ap, ◌∙◌}
use lib.IntN.{ℤ, neg_ℤ}
use lib.ListN.{length}
use Rattle.verdict.specs.Verdict.{number_of}
use Rattle.exact.proofs.Magnitude.{abs_neg}
use Rattle.shares.proofs.Turned.{turned}
use Rattle.columns.specs.Columns.{columns_rule}
use Rattle.sharing.specs.declared.Row.{Row}
use Rattle.sharing.specs.Rows.{demand_column, share_of}
use Rattle.sharing_theorems.specs.Charged.{row_charges}
use Rattle.sharing_theorems.proofs.Charges.{charged}

-- accepted or refused
pub answer_turned : (amount : ℤ) (rows : List Row) (room : ℕ) → share_of (neg_ℤ amount) rows room ≡ share_of amount rows room
unfolding columns_rule
answer_turned amount rows room = rw (abs_neg amount)

-- the two calls may be lent other charges
pub charges_turned : (amount : ℤ) (rows : List Row) (charges charges' : List ℤ) → number_of (share_of amount rows (length charges)) ≡ 0
    → number_of (share_of (neg_ℤ amount) rows (length charges')) ≡ 0
    → row_charges (neg_ℤ amount) rows charges' ≡ map neg_ℤ (row_charges amount rows charges)
charges_turned amount rows charges charges' z z' =
    charged (neg_ℤ amount) rows charges' z' ∙ turned amount (demand_column rows) ∙ ap (map neg_ℤ) (sym (charged amount rows charges z))

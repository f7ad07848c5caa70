-- Who has no demand is charged nothing; where nobody has, nobody is, and the charges add up to nothing.
use mathlib.Core.List.{List, [], ◌∷◌}
use mathlib.Core.Path.{◌≡◌, refl, ap, ap₂, ◌∙◌}
use Prim.Native.Nat.{ℕ, zero, suc, ◌+◌, ◌*◌}
use native.Mathlib.Nat.{add-zero, div-zero}
use lib.IntN.{ℤ, pos, negsuc, neg_ℤ, ◌*ℤ◌, +ℤ_invr}
use lib.ListN.{length, get_or, replicate}
use Rattle.exact.specs.Round.{round_div}
use Rattle.exact.specs.Total.{total}
use Rattle.shares.specs.Shares.{up_to, shares_from, shares, sum}
use Rattle.shares.proofs.AddsUp.{sum_from}

-- R by 0 is 0
pub round_by_zero : (z : ℤ) → round_div z 0 ≡ pos 0
unfolding round_div
round_by_zero (pos a) = ap pos (div-zero (2 * a + 0))
round_by_zero (negsuc a) = ap (λ n. neg_ℤ (pos n)) (div-zero (2 * suc a + 0))

from_no_demand : (amount : ℤ) (t c : ℕ) (ds : List ℕ) (i : ℕ) → get_or ds i 0 ≡ 0 → get_or (shares_from amount t c ds) i (pos 0) ≡ pos 0
unfolding shares_from
from_no_demand amount t c [] i none = refl
from_no_demand amount t c (d ∷ ds) zero none = rw (none, add-zero c) (+ℤ_invr (up_to amount t c))
from_no_demand amount t c (d ∷ ds) (suc i) none = from_no_demand amount t (c + d) ds i none

pub no_demand : (amount : ℤ) (demands : List ℕ) (i : ℕ) → get_or demands i 0 ≡ 0 → get_or (shares amount demands) i (pos 0) ≡ pos 0
unfolding shares
no_demand amount demands i none = from_no_demand amount (total demands) 0 demands i none

pub no_demand_at_all : (amount : ℤ) (demands : List ℕ) → total demands ≡ 0 → sum (shares amount demands) ≡ pos 0
unfolding shares
no_demand_at_all amount demands none =
    sum_from amount (total demands) 0 demands ∙ rw none (+ℤ_invr (up_to amount 0 0))

from_nobody : (amount : ℤ) (c : ℕ) (ds : List ℕ) → shares_from amount 0 c ds ≡ replicate (length ds) (pos 0)
unfolding shares_from
from_nobody amount c [] = refl
from_nobody amount c (d ∷ ds) = ap₂ ◌∷◌ (rw (round_by_zero (amount *ℤ pos (c + d)), round_by_zero (amount *ℤ pos c))) (from_nobody amount (c + d) ds)

pub nobody_charged : (amount : ℤ) (demands : List ℕ) → total demands ≡ 0 → shares amount demands ≡ replicate (length demands) (pos 0)
unfolding shares
nobody_charged amount demands none = rw none (from_nobody amount 0 demands)

-- There are as many charges as demands.
use mathlib.Core.List.{List, [], ◌∷◌}
use mathlib.Core.Path.{◌≡◌, refl, ap}
use Prim.Native.Nat.{ℕ, suc, ◌+◌}
use lib.IntN.{ℤ}
use lib.ListN.{length}
use Rattle.exact.specs.Total.{total}
use Rattle.shares.specs.Shares.{shares_from, shares}

from_length : (amount : ℤ) (t c : ℕ) (demands : List ℕ) → length (shares_from amount t c demands) ≡ length demands
unfolding shares_from
from_length amount t c [] = refl
from_length amount t c (d ∷ ds) = ap suc (from_length amount t (c + d) ds)

pub shares_length : (amount : ℤ) (demands : List ℕ) → length (shares amount demands) ≡ length demands
unfolding shares
shares_length amount demands = from_length amount (total demands) 0 demands

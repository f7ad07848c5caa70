-- "all 0 when A = 0"
use mathlib.Core.Path.{◌≡◌, refl, ap₂}
use mathlib.Core.List.{List, [], ◌∷◌}
use Prim.Native.Nat.{ℕ, ◌+◌}
use lib.IntN.{pos, zero-*ℤ}
use lib.ListN.{length, replicate}
use Rattle.exact.proofs.Round.{round_zero}
use Rattle.exact.specs.Total.{total}
use Rattle.shares.specs.Shares.{shares_from, shares}

from_nothing : (t c : ℕ) (ds : List ℕ) → shares_from (pos 0) t c ds ≡ replicate (length ds) (pos 0)
unfolding shares_from
from_nothing t c [] = refl
from_nothing t c (d ∷ ds) = ap₂ ◌∷◌ (rw (zero-*ℤ (pos (c + d)), zero-*ℤ (pos c), round_zero t)) (from_nothing t (c + d) ds)

pub nothing : (demands : List ℕ) → shares (pos 0) demands ≡ replicate (length demands) (pos 0)
unfolding shares
nothing demands = from_nothing (total demands) 0 demands

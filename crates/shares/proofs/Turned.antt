-- The sign turns: the shares of the negated amount are the negated shares. ("100 cents over 1, 1, 1: 33, 34, 33; .. -100 cents: -33, -34, -33")
use mathlib.Core.Path.{◌≡◌, refl, ap₂}
use mathlib.Core.List.{List, [], ◌∷◌, map}
use Prim.Native.Nat.{ℕ, ◌+◌}
use lib.IntN.{ℤ, pos, neg_ℤ, ◌-ℤ◌, ◌*ℤ◌}
use Rattle.exact.proofs.Difference.{neg_mul, minus_neg}
use Rattle.exact.proofs.Round.{round_neg}
use Rattle.exact.specs.Total.{total}
use Rattle.shares.specs.Shares.{up_to, shares_from, shares}

up_to_neg : (amount : ℤ) (t c : ℕ) → up_to (neg_ℤ amount) t c ≡ neg_ℤ (up_to amount t c)
up_to_neg amount t c = rw (neg_mul amount c) (round_neg (amount *ℤ pos c) t)

pub step_neg : (amount : ℤ) (t x y : ℕ) → up_to (neg_ℤ amount) t x -ℤ up_to (neg_ℤ amount) t y ≡ neg_ℤ (up_to amount t x -ℤ up_to amount t y)
step_neg amount t x y = rw (up_to_neg amount t x, up_to_neg amount t y) (minus_neg (up_to amount t x) (up_to amount t y))

from_neg : (amount : ℤ) (t c : ℕ) (ds : List ℕ) → shares_from (neg_ℤ amount) t c ds ≡ map neg_ℤ (shares_from amount t c ds)
unfolding shares_from
from_neg amount t c [] = refl
from_neg amount t c (d ∷ ds) = ap₂ ◌∷◌ (step_neg amount t (c + d) c) (from_neg amount t (c + d) ds)

pub turned : (amount : ℤ) (demands : List ℕ) → shares (neg_ℤ amount) demands ≡ map neg_ℤ (shares amount demands)
unfolding shares
turned amount demands = from_neg amount (total demands) 0 demands

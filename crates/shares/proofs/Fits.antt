-- The shares of an amount fit 64 bits where the amount times the total demand does.
use Prim.Native.Nat.{ℕ, ◌+◌, ◌*◌, ◌≤◌, ◌<◌, ◌^◌}
use mathlib.Core.List.{List, [], ◌∷◌}
use mathlib.Core.Path.{◌≡◌}
use native.Mathlib.Nat.{zero-add, mul-le-mul_left}
use native.Mathlib.Omega.{arith}
use lib.IntN.{ℤ, nat_abs}
use mir.Syntax.{w64}
use Rattle.exact.specs.Total.{total}
use Rattle.exact.proofs.Machine.{within}
use Rattle.encoding.specs.Encoding.{AllFit}
use Rattle.encoding.proofs.Decoding.{fit_none, fit_cons}
use Rattle.shares.specs.Shares.{shares_from, shares}
use Rattle.shares.proofs.Sharing.{charge_within}

from_fit : (amount : ℤ) (t c : ℕ) (ds : List ℕ) → nat_abs amount * (c + total ds) < 2 ^ 63 → AllFit (shares_from amount t c ds)
unfolding shares_from total
from_fit amount t c [] h = fit_none
from_fit amount t c (d ∷ ds) h =
    let more : c + (d + total ds) ≡ c + d + total ds = omega arith in
    let part : c + d ≤ c + (d + total ds) = omega arith in
    fit_cons _ _ (within w64 _ (charge_within (2 ^ 63) amount t c d (omega (arith, mul-le-mul_left (nat_abs amount) part)))) (from_fit amount t (c + d) ds (rw (← more) h))

pub shares_fit : (amount : ℤ) (ds : List ℕ) → nat_abs amount * total ds < 2 ^ 63 → AllFit (shares amount ds)
unfolding shares
shares_fit amount ds h = from_fit amount (total ds) 0 ds (rw (zero-add (total ds)) h)

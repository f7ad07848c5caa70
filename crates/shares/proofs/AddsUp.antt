-- The charges add up to the amount, where there is demand or nothing to share. ("Rounding each share alone: T11 sums to 99.")
use mathlib.Core.Path.{◌≡◌, sym, ◌∙◌}
use mathlib.Core.Logic.{◌⊎◌, ⊎_elim}
use mathlib.Core.List.{List, [], ◌∷◌}
use Prim.Native.Nat.{ℕ, ◌+◌, ◌<◌}
use native.Mathlib.Nat.{add-zero, zero-add, add_assoc}
use lib.IntN.{ℤ, pos, ◌-ℤ◌, +ℤ_invr, +ℤ_idr, zero-*ℤ}
use Rattle.exact.proofs.Difference.{two_steps}
use Rattle.exact.proofs.Round.{round_exact, round_zero}
use Rattle.exact.specs.Total.{total}
use Rattle.shares.specs.Shares.{up_to, shares_from, shares, sum}
use Rattle.shares.proofs.Sharing.{up_to_zero}

pub sum_from : (amount : ℤ) (t c : ℕ) (ds : List ℕ) → sum (shares_from amount t c ds) ≡ up_to amount t (c + total ds) -ℤ up_to amount t c
unfolding shares_from sum total
sum_from amount t c [] = rw (add-zero c) (sym (+ℤ_invr (up_to amount t c)))
sum_from amount t c (d ∷ ds) =
    rw (sum_from amount t (c + d) ds, add_assoc c d (total ds)) (two_steps (up_to amount t c) (up_to amount t (c + d)) (up_to amount t (c + (d + total ds))))

-- nothing, up to any demand, is nothing
nothing_whole : (amount : ℤ) (t : ℕ) → amount ≡ pos 0 → up_to amount t t ≡ amount
nothing_whole amount t e = rw (e, zero-*ℤ (pos t)) (round_zero t)

pub adds_up : (amount : ℤ) (demands : List ℕ) → (amount ≡ pos 0) ⊎ (0 < total demands) → sum (shares amount demands) ≡ amount
unfolding shares
adds_up amount demands some =
    sum_from amount (total demands) 0 demands
    ∙ rw (zero-add (total demands), up_to_zero amount (total demands), +ℤ_idr (up_to amount (total demands) (total demands)))
    (⊎_elim (λ e. nothing_whole amount (total demands) e) (λ h. round_exact amount (total demands) h) some)

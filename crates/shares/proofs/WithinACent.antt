-- "A charge is less than one cent from its exact share of A, with demand D of total T > 0, when T × charge and A × D differ by less than T."
use mathlib.Core.List.{List, [], ◌∷◌}
use Prim.Native.Nat.{ℕ, zero, suc, ◌+◌, ◌*◌, ◌<◌}
use native.Mathlib.Nat.{mul-add, le_of_suc-le-suc}
use native.Mathlib.Omega.{arith}
use lib.IntN.{ℤ, pos, negsuc, nat_abs, ◌-ℤ◌, ◌*ℤ◌}
use lib.ListN.{length, get_or}
use Rattle.exact.specs.Round.{round_div, half_up}
use Rattle.exact.proofs.Magnitude.{abs_neg}
use Rattle.exact.proofs.Difference.{neg_mul, mul_neg, minus_neg, minus_sub, mul_sub, sub_minus, abs_sub_lt}
use Rattle.exact.proofs.Round.{half_low, half_high}
use Rattle.exact.specs.Total.{total}
use Rattle.shares.specs.Shares.{up_to, shares_from, shares, apart}
use Rattle.shares.proofs.Turned.{step_neg}

near_pos : (a t c d : ℕ) → 0 < t → nat_abs (apart t (pos a) (up_to (pos a) t (c + d) -ℤ up_to (pos a) t c) d) < t
unfolding round_div
near_pos a t c d h =
    let x₁ = half_up (a * (c + d)) t in
    let x₀ = half_up (a * c) t in
    rw (minus_sub x₁ x₀, mul_sub t x₁ x₀, sub_minus (t * x₁) (t * x₀) (a * d))
    (abs_sub_lt (t * x₁) (t * x₀ + a * d) t
    (omega (arith, mul-add a c d, half_low (a * (c + d)) t, half_high (a * c) t h))
    (omega (arith, mul-add a c d, half_low (a * c) t, half_high (a * (c + d)) t h)))

near : (amount : ℤ) (t c d : ℕ) → 0 < t → nat_abs (apart t amount (up_to amount t (c + d) -ℤ up_to amount t c) d) < t
near (pos a) t c d h = near_pos a t c d h
near (negsuc a) t c d h =
    let amount = pos (suc a) in
    let charge = up_to amount t (c + d) -ℤ up_to amount t c in
    rw (step_neg amount t (c + d) c, mul_neg t charge, neg_mul amount d, minus_neg (pos t *ℤ charge) (amount *ℤ pos d), abs_neg (apart t amount charge d))
    (near_pos (suc a) t c d h)

from_near : (amount : ℤ) (t c : ℕ) (ds : List ℕ) (i : ℕ) → 0 < t → i < length ds
    → nat_abs (apart t amount (get_or (shares_from amount t c ds) i (pos 0)) (get_or ds i 0)) < t
unfolding shares_from
from_near amount t c [] i h k = absurd (omega arith)
from_near amount t c (d ∷ ds) zero h k = near amount t c d h
from_near amount t c (d ∷ ds) (suc i) h k = from_near amount t (c + d) ds i h (le_of_suc-le-suc k)

pub within_a_cent : (amount : ℤ) (demands : List ℕ) (i : ℕ) → 0 < total demands → i < length demands
    → nat_abs (apart (total demands) amount (get_or (shares amount demands) i (pos 0)) (get_or demands i 0)) < total demands
unfolding shares
within_a_cent amount demands i h k = from_near amount (total demands) 0 demands i h k

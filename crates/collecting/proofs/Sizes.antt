-- The amounts of an hour in each direction: those that were found, and how large they get.
use Prim.Native.Nat.{ℕ, ◌≤◌, ◌<◌}
use mathlib.Core.List.{List}
use mathlib.Core.Path.{◌≡◌, ap}
use native.Mathlib.Omega.{arith}
use lib.IntN.{nat_abs, ◌+ℤ◌}
use Rattle.limits.specs.Ranges.{day_hours, proved_points}
use Rattle.body.specs.Kept.{Sound}
use Rattle.surcharge.specs.declared.Terms.{Terms}
use Rattle.surcharge.specs.Ranges.{TermsKept}
use Rattle.surcharge.proofs.Sizes.{most_on_peak_amount}
use Rattle.amounts.specs.declared.Amounts.{Amounts}
use Rattle.amounts.specs.Amounts.{amounts_of}
use Rattle.amounts.proofs.AmountSizes.{upward_small, down_small}
use Rattle.collecting.specs.Directions.{Direction, Upward, Downward, amount_in}

module _ (terms : Terms) (body : List ℕ) (h : ℕ) where
  module _ (amounts : Amounts) (is : amounts ≡ amounts_of terms body h) where
    pub upward_is : amounts.on.0 +ℤ amounts.off.0 ≡ amount_in terms body h Upward
    unfolding amounts_of amount_in
    upward_is = ap (λ m. m.on.0 +ℤ m.off.0) is

    pub downward_is : amounts.down.0 ≡ amount_in terms body h Downward
    unfolding amounts_of amount_in
    downward_is = ap (λ m. m.down.0) is

  pub direction_small : Sound proved_points body → h < day_hours → TermsKept terms → (direction : Direction)
      → nat_abs (amount_in terms body h direction) ≤ most_on_peak_amount
  unfolding amount_in
  direction_small sound below kept Upward = upward_small body sound h below terms kept
  direction_small sound below kept Downward = omega (arith, down_small body sound h below terms)

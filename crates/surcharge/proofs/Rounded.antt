-- An amount is rounded once, at the end: what was floored at 0, over one denominator.
use Prim.Native.Nat.{ℕ}
use mathlib.Core.Path.{◌≡◌, ap, ◌∙◌}
use lib.IntN.{ℤ}
use Rattle.exact.specs.Round.{round_div}

pub rounded_once : (floor : ℤ → ℤ) (n : ℕ) {amount floored z due : ℤ} → amount ≡ round_div floored n → floored ≡ floor z → z ≡ due
    → amount ≡ round_div (floor due) n
rounded_once floor n e f g = e ∙ ap (λ x. round_div x n) (f ∙ ap floor g)

-- R (docs/RULES.md, section 1): rounding to the nearest whole number, halves away from zero, R(-12.5) = -13.
use Rattle.std.specs.Prelude.{ℕ, suc, ◌+◌, ◌*◌, ◌/◌, ℤ, pos, negsuc, neg_ℤ}

-- R(a / b) for a >= 0: (2a + b) / 2b without its remainder
abbrev pub half_up : ℕ → ℕ → ℕ
half_up a b = (2 * a + b) / (2 * b)

-- R(a / b) for b > 0; for a < 0 it is -R(-a / b)
unfoldable pub round_div : ℤ → ℕ → ℤ
round_div (pos a) b = pos (half_up a b)
round_div (negsuc a) b = neg_ℤ (pos (half_up (suc a) b))

-- max(0, z) and min(0, z), by which a surcharge and a downward amount are floored (docs/RULES.md, sections 4 to 6).
use Rattle.std.specs.Prelude.{ℤ, pos, negsuc}

-- max(0, z)
unfoldable pub at_least_zero : ℤ → ℤ
at_least_zero (pos n) = pos n
at_least_zero (negsuc n) = pos 0

-- min(0, z)
unfoldable pub at_most_zero : ℤ → ℤ
at_most_zero (pos n) = pos 0
at_most_zero (negsuc n) = negsuc n

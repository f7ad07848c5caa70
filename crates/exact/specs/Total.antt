-- What numbers add up to: demands, and by their first ones the running demand.
use Rattle.std.specs.Prelude.{ℕ, ◌+◌, List, [], ◌∷◌}

unfoldable pub total : List ℕ → ℕ
total [] = 0
total (number ∷ numbers) = number + total numbers

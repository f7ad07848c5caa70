-- What an hour of a body holds: its size, and the price that stands for a missing one.
use Rattle.std.specs.Prelude.{ℕ, ◌+◌, ◌*◌, Bool, ◌==◌}
use Rattle.limits.specs.Ranges.{missing_price}

-- the words of an hour, with so many load points and coordinators
abbrev pub hour_words : ℕ → ℕ → ℕ
hour_words points coordinators = 8 + 24 * points + coordinators

-- "is -2,147,483,648: missing"
abbrev pub missing : ℕ → Bool
missing price = price == missing_price

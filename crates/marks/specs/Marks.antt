-- The marks of an area: thirty days in one number, bit i for the day i days before the last day entered.
use Rattle.std.specs.Prelude.{ℕ, zero, suc, ◌+◌, ◌*◌, ◌-◌, ◌/◌, ◌%◌, ◌^◌}
use Rattle.limits.specs.Ranges.{recorded_days}

-- 1 where the day i days before the last one is marked, 0 where it is not
unfoldable pub bit_at : ℕ → ℕ → ℕ
bit_at marks i = marks / 2 ^ i % 2

-- the marks g days later: each day is g days further back, and those past thirty days are gone
unfoldable pub aged : ℕ → ℕ → ℕ
aged marks g = marks * 2 ^ g % 2 ^ recorded_days

-- how many of the bits 0 .. n - 1 are set
unfoldable pub bits_below : ℕ → ℕ → ℕ
bits_below marks zero = 0
bits_below marks (suc n) = bits_below marks n + bit_at marks n

-- d for a day g days after the last one: the set bits among 0 .. 30 - g, the marked days among the thirty before it
abbrev pub counted : ℕ → ℕ → ℕ
counted marks g = bits_below marks (recorded_days + 1 - g)

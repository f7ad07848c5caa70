-- How R(A × C / T) is found without a division at each C: by what A comes to for one thousandth of T.
use Rattle.std.specs.Prelude.{ℕ, ◌*◌, ◌/◌, ◌%◌, ℤ, nat_abs}
use Rattle.shares.specs.declared.Rates.{Rates}

-- 2^32: more than any C
abbrev pub rate_parts : ℕ
rate_parts = 4294967296

-- whole cents, what of A these leave over, and of that as many parts of a cent as are whole
unfoldable pub rates_of : ℤ → ℕ → Rates
rates_of amount t =
    record { each = nat_abs amount / t; rest = nat_abs amount % t; part = nat_abs amount % t * rate_parts / t }

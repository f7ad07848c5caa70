-- A word: four bytes, the lowest first; as a signed number, two's complement.
use Rattle.std.specs.Prelude.{ℕ, ◌+◌, ◌*◌, cond, List, ℤ, pos, ◌-ℤ◌, nat_lt, slice_index}

-- word i of some bytes
unfoldable pub word_at : List ℕ → ℕ → ℕ
word_at bytes i =
    slice_index bytes (4 * i) + 256 * slice_index bytes (4 * i + 1) + 65536 * slice_index bytes (4 * i + 2) + 16777216 * slice_index bytes (4 * i + 3)

-- below 2^31 the word itself, from there on the word less 2^32
unfoldable pub signed_of : ℕ → ℤ
signed_of w = cond (nat_lt w 2147483648) (pos w) (pos w -ℤ pos 4294967296)

-- Numbers as bytes (docs/RULES.md, section 11): "8 little-endian bytes a number".
use Rattle.std.specs.Prelude.{ℕ, ◌+◌, ◌-◌, ◌/◌, ◌%◌, ◌^◌, ◌<◌, List, [], ◌∷◌, ◌++◌, ◌≡◌, ℤ, pos, negsuc, length, get_or, drop}
use Rattle.std.specs.Int.{w64, from_le_bytes}
use Rattle.std.proofs.Common.{SFits, to_z}

-- the 64 bits of a number, two's complement
abbrev pub bits_of : ℤ → ℕ
bits_of (pos n) = n
bits_of (negsuc n) = 2 ^ 64 - (n + 1)

-- eight bytes, the lowest first
unfoldable pub bytes_of : ℕ → List ℕ
bytes_of bits =
    bits % 256
    ∷ bits / 256 % 256
    ∷ bits / 65536 % 256
    ∷ bits / 16777216 % 256
    ∷ bits / 4294967296 % 256
    ∷ bits / 1099511627776 % 256
    ∷ bits / 281474976710656 % 256
    ∷ bits / 72057594037927936 % 256
    ∷ []

unfoldable pub encoded : List ℤ → List ℕ
encoded [] = []
encoded (z ∷ numbers) = bytes_of (bits_of z) ++ encoded numbers

-- the number that eight bytes hold
abbrev pub number_in : List ℕ → ℤ
number_in eight = to_z w64 (from_le_bytes w64 eight)

-- every number of a list fits 64 bits
pub record AllFit (numbers : List ℤ) : Type 0 where
  pub each : (i : ℕ) → i < length numbers → SFits w64 (get_or numbers i (pos 0))

-- the numbers that some bytes encode, if they encode some, written over the front of `before`
pub record NumbersIn (bytes : List ℕ) (before after : List ℤ) : Type 0 where
  pub are : (numbers : List ℤ) → AllFit numbers → bytes ≡ encoded numbers → after ≡ numbers ++ drop (length numbers) before

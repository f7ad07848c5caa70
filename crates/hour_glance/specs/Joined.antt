-- Words joined bit by bit: no number is larger than what it is joined to.
use Rattle.std.specs.Prelude.{◌≡◌, ℕ, ◌+◌, ◌*◌, ◌%◌, ◌<◌, ◌≤◌, List, ◌==◌}
use Rattle.words.specs.Word.{word_at}
use Rattle.hour.specs.Plain.{present_from, quantity_from}

-- 2^24: as words so much higher, prices near 0 of either sign are small numbers
abbrev pub raise : ℕ
raise = 16777216

abbrev pub raised : ℕ → ℕ
raised price = (price + raise) % 4294967296

-- 2^25: a price that is below it when raised is in range, and is not missing
abbrev pub near : ℕ
near = 33554432

-- 2^23: a quantity below it is in range
abbrev pub small : ℕ
small = 8388608

-- of the n intervals from word `from` on: their quantities joined, and their prices, raised
pub record JoinedFrom (body : List ℕ) (from n quantities prices : ℕ) : Type 0 where
  pub quantity : (i : ℕ) → i < n → word_at body (from + 2 * i) ≤ quantities
  pub price : (i : ℕ) → i < n → (word_at body (from + 2 * i + 1) < 4294967296) × (raised (word_at body (from + 2 * i + 1)) ≤ prices)
  pub all : prices < near → (present_from body from n ≡ n) × ((quantities == 0) ≡ (quantity_from body from n == 0))

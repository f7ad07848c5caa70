-- The place of a date in the contents of a month book.
use Rattle.std.specs.Prelude.{ℕ, zero, suc, Bool, cond, not, List, eqb, ltb}
use Rattle.book.specs.Read.{date_at}

module _ (room : List ℕ) where
  -- of m entries from entry k on, how many stand before the first whose date meets the test
  unfoldable pub before_first : (ℕ → Bool) → (k m : ℕ) → ℕ
  before_first test k zero = 0
  before_first test k (suc m) = cond (test (date_at room k)) 0 (suc (before_first test (suc k) m))

-- the first that is not earlier than a date, and the first of that date
abbrev pub not_earlier : (date : ℕ) → ℕ → Bool
not_earlier date d = not (ltb d date)

abbrev pub same_date : (date : ℕ) → ℕ → Bool
same_date date d = eqb d date

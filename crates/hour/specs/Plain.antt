-- A plain hour: nothing of it can be refused when it is settled, whatever its amounts come to. Enough of its prices are present, there is a quantity under
-- them, and an area of kind 1, CISO, has demand.
use Rattle.std.specs.Prelude.{ℕ, zero, suc, ◌+◌, ◌*◌, Bool, cond, not, ◌&&◌, List, ◌==◌, nat_le}
use Rattle.exact.specs.Total.{total}
use Rattle.words.specs.Word.{word_at}
use Rattle.words.specs.Bytes.{words_from}
use Rattle.limits.specs.Ranges.{least_present}
use Rattle.hour.specs.Layout.{missing}

module _ (body : List ℕ) (from : ℕ) where
  -- how many of the first n intervals from word `from` on have a price
  unfoldable pub present_from : ℕ → ℕ
  present_from zero = 0
  present_from (suc n) = present_from n + cond (missing (word_at body (from + 2 * n + 1))) 0 1

  -- the quantities of those, added
  unfoldable pub quantity_from : ℕ → ℕ
  quantity_from zero = 0
  quantity_from (suc n) = quantity_from n + cond (missing (word_at body (from + 2 * n + 1))) 0 (word_at body (from + 2 * n))

-- the hour that starts at word `at`, in an area of that kind with so many load points and coordinators
unfoldable pub plain_hour : List ℕ → (kind load count at : ℕ) → Bool
plain_hour body kind load count at =
    nat_le (least_present * load) (present_from body (at + 8) (12 * load))
    && not (quantity_from body (at + 8) (12 * load) == 0)
    && nat_le kind (total (words_from body (at + 8 + 24 * load) count))

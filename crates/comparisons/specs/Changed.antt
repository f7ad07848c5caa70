-- A file of which the word that holds the quantity of an interval is changed.
use Rattle.std.specs.Prelude.{ℕ, ◌+◌, ◌*◌, ◌<◌, true, List, ◌≡◌}
use Rattle.words.specs.Bytes.{with_word}
use Rattle.limits.specs.Ranges.{day_hours}
use Rattle.hour.specs.Layout.{missing}
use Rattle.body.specs.Layout.{points_of, intervals_at, price_at}
use Rattle.contents.specs.File.{start_at, body_at}

module _ (body : List ℕ) (h i : ℕ) where
  -- the word of the quantity of interval i of hour h
  abbrev pub quantity_word : ℕ
  quantity_word = intervals_at body h + 2 * i

  -- there is such an interval, and its price is missing
  pub record PriceIsMissing : Type 0 where
    pub hour : h < day_hours
    pub interval : i < 12 * points_of body
    pub price : missing (price_at body h i) ≡ true

-- a file with four bytes written over the quantity of interval i of hour h of area k
abbrev pub with_quantity : List ℕ → (k h i a b c d : ℕ) → List ℕ
with_quantity file k h i a b c d = with_word file (start_at file k + quantity_word (body_at file k) h i) a b c d

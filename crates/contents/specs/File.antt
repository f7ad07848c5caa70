-- The layout of a day file (docs/RULES.md, section 2): four head words, the contents, the bodies.
use Rattle.std.specs.Prelude.{ℕ, zero, suc, ◌+◌, ◌*◌, List, take, drop}
use Rattle.words.specs.Word.{word_at}

module _ (file : List ℕ) where
  abbrev pub edition_of : ℕ
  edition_of = word_at file 0

  -- the trading day, YYYYMMDD
  abbrev pub day_of : ℕ
  day_of = word_at file 1

  -- the number of areas, n
  abbrev pub areas_of : ℕ
  areas_of = word_at file 2

  -- the peak hours
  abbrev pub peak_of : ℕ
  peak_of = word_at file 3

  -- ---- entry k of the contents, from 0

  abbrev pub number_at : ℕ → ℕ
  number_at k = word_at file (4 + 3 * k)

  abbrev pub start_at : ℕ → ℕ
  start_at k = word_at file (4 + 3 * k + 1)

  abbrev pub size_at : ℕ → ℕ
  size_at k = word_at file (4 + 3 * k + 2)

  -- the number of the entry before entry k; 0 before the first
  unfoldable pub number_before : ℕ → ℕ
  number_before zero = 0
  number_before (suc k) = number_at k

  -- where the body of entry k is due: the first behind the contents, each other where the one before it ends
  unfoldable pub due_at : ℕ → ℕ → ℕ
  due_at n zero = 4 + 3 * n
  due_at n (suc k) = start_at k + size_at k

  -- ---- the bodies

  -- the bytes of body k
  abbrev pub body_at : ℕ → List ℕ
  body_at k = take (4 * size_at k) (drop (4 * start_at k) file)

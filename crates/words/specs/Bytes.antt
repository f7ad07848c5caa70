-- Words as bytes: written out, read off, and written over.
use Rattle.std.specs.Prelude.{◌≡◌, ℕ, zero, suc, ◌+◌, ◌*◌, ◌/◌, ◌%◌, ◌<◌, List, [], ◌∷◌, ◌++◌, length, ◌≢◌, slice_index, slice_set}
use Rattle.words.specs.Word.{word_at}

-- the four bytes of a word, the lowest first
unfoldable pub word_bytes : ℕ → List ℕ
word_bytes w = w % 256 ∷ w / 256 % 256 ∷ w / 65536 % 256 ∷ w / 16777216 % 256 ∷ []

unfoldable pub words_bytes : List ℕ → List ℕ
words_bytes [] = []
words_bytes (w ∷ words) = word_bytes w ++ words_bytes words

-- m words from word i on
unfoldable pub words_from : List ℕ → ℕ → ℕ → List ℕ
words_from bytes i zero = []
words_from bytes i (suc m) = word_at bytes i ∷ words_from bytes (suc i) m

-- every number of a list is below a bound: 256 for bytes, 4,294,967,296 for words
pub record Below (bound : ℕ) (numbers : List ℕ) : Type 0 where
  pub each : (i : ℕ) → i < length numbers → slice_index numbers i < bound

-- the same bytes but for one word: as many, and every other word as it was
pub record ChangedAt (word : ℕ) (bytes bytes' : List ℕ) : Type 0 where
  pub as_many : length bytes ≡ length bytes'
  pub others : (j : ℕ) → (j ≢ word) → word_at bytes j ≡ word_at bytes' j

-- four bytes, the lowest first, written over a word
abbrev pub with_word : List ℕ → (word a b c d : ℕ) → List ℕ
with_word bytes word a b c d = slice_set (slice_set (slice_set (slice_set bytes (4 * word) a) (4 * word + 1) b) (4 * word + 2) c) (4 * word + 3) d

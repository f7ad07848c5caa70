-- A word of some bytes, by where it stands: in front, behind, or among words that were written out.
use Rattle.std.proofs.Common.{◌≡◌, ℕ, zero, suc, ◌+◌, ◌*◌, ◌<◌, List, [], ◌∷◌, ◌++◌, length, get_or, refl, ap, ◌∙◌, arith, ext_get_or}
use Rattle.std.proofs.lemmas.Grind.{common_steps}
use Rattle.words.specs.Word.{word_at}
use Rattle.words.specs.Bytes.{word_bytes, words_bytes, words_from, Below}

-- a word behind the first m words
word_behind : (xs ys : List ℕ) (m i : ℕ) → length xs ≡ 4 * m → word_at (xs ++ ys) (m + i) ≡ word_at ys i
unfolding word_at
word_behind xs ys m i long = grind (arith, common_steps)

pub word_long : (w : ℕ) → length (word_bytes w) ≡ 4
unfolding word_bytes
word_long w = refl

pub words_length : (words : List ℕ) → length (words_bytes words) ≡ 4 * length words
unfolding words_bytes word_bytes
words_length [] = refl
words_length (w ∷ words) = grind (arith, words_length words)

first_word : (w : ℕ) (ys : List ℕ) → w < 4294967296 → word_at (word_bytes w ++ ys) 0 ≡ w
unfolding word_at word_bytes
first_word w ys h = omega arith

-- a word that stands behind the first i words
pub word_there : (bytes front : List ℕ) (w : ℕ) (rest : List ℕ) (i : ℕ) → bytes ≡ front ++ (word_bytes w ++ rest) → length front ≡ 4 * i → w < 4294967296
    → word_at bytes i ≡ w
word_there bytes front w rest i stands at h =
    grind (arith, stands, word_behind front (word_bytes w ++ rest) i 0 at, first_word w rest h)

-- the words that were written out stand there
pub word_written : (words rest : List ℕ) (i : ℕ) → Below 4294967296 words → i < length words → word_at (words_bytes words ++ rest) i ≡ get_or words i 0
unfolding words_bytes word_bytes
word_written [] rest i small h = absurd (omega arith)
word_written (w ∷ words) rest zero small h = first_word w (words_bytes words ++ rest) (small.each 0 h)
word_written (w ∷ words) rest (suc i) small h =
    let e : suc i ≡ 1 + i = omega arith in
    rw e
    (word_behind (word_bytes w) (words_bytes words ++ rest) 1 i refl
    ∙ word_written words rest i (record { each = λ j p. small.each (suc j) (omega arith) }) (omega arith))

-- ---- words that are read off some bytes

module _ (bytes : List ℕ) where
  pub words_count : (i m : ℕ) → length (words_from bytes i m) ≡ m
  unfolding words_from
  words_count i zero = refl
  words_count i (suc m) = ap suc (words_count (suc i) m)

  pub words_at : (i m j : ℕ) → j < m → get_or (words_from bytes i m) j 0 ≡ word_at bytes (i + j)
  unfolding words_from
  words_at i zero j h = absurd (omega arith)
  words_at i (suc m) zero h = grind arith
  words_at i (suc m) (suc j) h = grind (arith, words_at (suc i) m j)

-- words that are the same one by one
pub words_same : (bytes bytes' : List ℕ) (i i' m : ℕ) → ((j : ℕ) → j < m → word_at bytes (i + j) ≡ word_at bytes' (i' + j))
    → words_from bytes i m ≡ words_from bytes' i' m
words_same bytes bytes' i i' m same =
    ext_get_or 0 (words_from bytes i m) (words_from bytes' i' m) (omega (arith, words_count bytes i m, words_count bytes' i' m))
    (λ j p. let q = rw (words_count bytes i m) at p in cc (words_at bytes i m j q, same j q, words_at bytes' i' m j q))

-- bytes below 256 make words below 2^32
pub word_below : (bytes : List ℕ) → Below 256 bytes → (i : ℕ) → word_at bytes i < 4294967296
unfolding word_at
word_below bytes b i = grind (arith, common_steps, b.each (4 * i), b.each (4 * i + 1), b.each (4 * i + 2), b.each (4 * i + 3))

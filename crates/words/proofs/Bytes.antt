-- Bytes read as words and written out again are the same bytes.
use Rattle.std.proofs.Common.{◌≡◌, ℕ, zero, suc, ◌+◌, ◌*◌, ◌≤◌, List, ◌++◌, length, take, drop, refl, ap₂, arith, drop-drop, take-add}
use Rattle.std.proofs.lemmas.Grind.{common_steps}
use Rattle.words.specs.Word.{word_at}
use Rattle.words.specs.Bytes.{word_bytes, words_bytes, words_from, Below}

module _ (bytes : List ℕ) (small : Below 256 bytes) where
  pub word_bytes_lem : (i : ℕ) → 4 * i + 4 ≤ length bytes → word_bytes (word_at bytes i) ≡ take 4 (drop (4 * i) bytes)
  unfolding word_bytes word_at
  word_bytes_lem i h =
      grind (arith, common_steps, small.each (4 * i), small.each (4 * i + 1), small.each (4 * i + 2), small.each (4 * i + 3))

  pub words_bytes_lem : (i m : ℕ) → 4 * (i + m) ≤ length bytes → words_bytes (words_from bytes i m) ≡ take (4 * m) (drop (4 * i) bytes)
  unfolding words_from words_bytes
  words_bytes_lem i zero h = refl
  words_bytes_lem i (suc m) h =
      let e : 4 * suc m ≡ 4 + 4 * m = omega arith in
      let next : 4 * suc i ≡ 4 * i + 4 = omega arith in
      rw (e, take-add 4 (4 * m), drop-drop 4 (4 * i) bytes, ← next) (ap₂ ◌++◌ (word_bytes_lem i (omega arith)) (words_bytes_lem (suc i) m (omega arith)))

-- Four bytes written over a word change that word alone, and make it what they say.
use Rattle.std.proofs.Common.{◌≡◌, ◌≢◌, ℕ, ◌+◌, ◌*◌, ◌<◌, ◌≤◌, List, length, get_or, arith}
use Rattle.std.proofs.lemmas.Grind.{common_steps}
use Rattle.words.specs.Word.{word_at}
use Rattle.words.specs.Bytes.{ChangedAt, with_word}

module _ (bytes : List ℕ) (word a b c d : ℕ) where
  -- a byte of another word stays
  byte : (j i k : ℕ) → j ≢ word → k < 4 → 4 * j + k ≡ i → get_or (with_word bytes word a b c d) i 0 ≡ get_or bytes i 0
  byte j i k n h e = grind (arith, common_steps)

  others : (j : ℕ) → j ≢ word → word_at bytes j ≡ word_at (with_word bytes word a b c d) j
  unfolding word_at
  others j n =
      rw (
        byte j (4 * j) 0 n (omega arith) (omega arith),
        byte j (4 * j + 1) 1 n (omega arith) (omega arith),
        byte j (4 * j + 2) 2 n (omega arith) (omega arith),
        byte j (4 * j + 3) 3 n (omega arith) (omega arith),
      )

  pub with_changed : ChangedAt word bytes (with_word bytes word a b c d)
  with_changed = record { as_many = grind (arith, common_steps); others = others }

  pub with_word_lem : 4 * word + 4 ≤ length bytes → word_at (with_word bytes word a b c d) word ≡ a + 256 * b + 65536 * c + 16777216 * d
  unfolding word_at
  with_word_lem p = grind (arith, common_steps)

-- A word of a part that starts at a word is a word of the whole.
use Rattle.std.proofs.Common.{◌≡◌, ℕ, ◌+◌, ◌*◌, ◌<◌, List, take, drop, arith}
use Rattle.std.proofs.lemmas.Grind.{common_steps}
use Rattle.words.specs.Word.{word_at}

module _ (bytes : List ℕ) (start count : ℕ) where
  pub word_part : (j : ℕ) → j < count → word_at (take (4 * count) (drop (4 * start) bytes)) j ≡ word_at bytes (start + j)
  unfolding word_at
  word_part j h = grind (arith, common_steps)

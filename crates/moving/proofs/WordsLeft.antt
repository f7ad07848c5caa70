-- Words that stand before, or behind, what was written into the room.
use Rattle.std.proofs.Common.{◌≡◌, ℕ, ◌+◌, ◌*◌, ◌≤◌, List, length, arith}
use Rattle.std.proofs.lemmas.Grind.{common_steps}
use Rattle.words.specs.Word.{word_at}
use Rattle.moving.specs.Written.{written}

-- a word before what was written
pub word_before : (room : List ℕ) (at : ℕ) (bytes : List ℕ) (i : ℕ) → at + length bytes ≤ length room → 4 * i + 4 ≤ at
    → word_at (written room at bytes) i ≡ word_at room i
unfolding word_at written
word_before room at bytes i h k = grind (arith, common_steps)

-- the words before what was written
pub words_before : (room now : List ℕ) (at : ℕ) (bytes : List ℕ) → at + length bytes ≤ length room → now ≡ written room at bytes
    → (i : ℕ) → 4 * i + 4 ≤ at → word_at now i ≡ word_at room i
words_before room now at bytes h stands i k = rw stands (word_before room at bytes i h k)

pub words_behind : (room now : List ℕ) (at : ℕ) (bytes : List ℕ) → at + length bytes ≤ length room → now ≡ written room at bytes
    → (i : ℕ) → at + length bytes ≤ 4 * i → word_at now i ≡ word_at room i
unfolding word_at written
words_behind room now at bytes h stands i k = rw stands (grind (arith, common_steps))

-- Words read off some bytes, one after the other: how the next one joins them, and what they add up to.
use Rattle.std.proofs.Common.{◌≡◌, ℕ, zero, suc, ◌+◌, List, [], ◌∷◌, ◌++◌, refl, add-one, arith}
use Rattle.exact.specs.Total.{total}
use Rattle.exact.proofs.Totals.{total_append}
use Rattle.words.specs.Word.{word_at}
use Rattle.words.specs.Bytes.{words_from}

module _ (bytes : List ℕ) where
  words_last : (i n : ℕ) → words_from bytes i (suc n) ≡ words_from bytes i n ++ (word_at bytes (i + n) ∷ [])
  unfolding words_from
  words_last i zero = grind arith
  words_last i (suc n) = grind (arith, words_last (suc i) n)

  -- the running demand with one demand more
  pub total_more : (i n : ℕ) → total (words_from bytes i (n + 1)) ≡ total (words_from bytes i n) + word_at bytes (i + n)
  unfolding total
  total_more i n = rw (add-one, words_last i n, total_append) (omega arith)

  pub total_none : (i : ℕ) → total (words_from bytes i 0) ≡ 0
  unfolding total words_from
  total_none i = refl

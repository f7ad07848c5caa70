-- What two hours of the same demands are charged.
use Prim.Native.Nat.{ℕ, ◌+◌, ◌<◌}
use mathlib.Core.List.{List}
use mathlib.Core.Path.{◌≡◌}
use lib.IntN.{ℤ}
use Rattle.words.specs.Word.{word_at}
use Rattle.words.proofs.Words.{words_same}
use Rattle.statement.specs.Block.{charges_from}

pub charges_same : (amount : ℤ) (kind kind' : ℕ) (body body' : List ℕ) (from from' count count' : ℕ) → kind ≡ kind' → count ≡ count'
    → ((i : ℕ) → i < count → word_at body (from + i) ≡ word_at body' (from' + i))
    → charges_from kind amount body from count ≡ charges_from kind' amount body' from' count'
unfolding charges_from
charges_same amount kind kind' body body' from from' count count' kinds counts same =
    rw (← kinds, ← counts, words_same body body' from from' count same)

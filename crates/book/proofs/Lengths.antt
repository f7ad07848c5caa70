-- How long the parts of a book are.
use Prim.Native.Nat.{ℕ, ◌+◌, ◌*◌}
use mathlib.Core.Path.{◌≡◌, refl}
use mathlib.Core.List.{List, [], ◌∷◌}
use native.Mathlib.Omega.{arith}
use lib.ListN.{length, length-append}
use Rattle.words.proofs.Words.{word_long}
use Rattle.book.specs.Days.{Day, words_of, entry_bytes, contents_of}

pub entry_long : (date start size : ℕ) → length (entry_bytes date start size) ≡ 12
unfolding entry_bytes
entry_long date start size = simp (length-append, word_long)

pub contents_long : (start : ℕ) (days : List Day) → length (contents_of start days) ≡ 12 * length days
unfolding contents_of
contents_long start [] = refl
contents_long start (day ∷ days) = simp (length-append, entry_long, contents_long (start + words_of day) days) (omega arith)

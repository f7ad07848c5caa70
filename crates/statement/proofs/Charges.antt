-- The charges of an hour by kind, and how many there are.
use Prim.Native.Nat.{ℕ}
use mathlib.Core.List.{List, [], ◌∷◌}
use mathlib.Core.Path.{◌≡◌, refl, sym, ◌∙◌}
use mathlib.Core.Bool.{Bool, true, false}
use lib.Dec.{eqb}
use lib.IntN.{ℤ}
use lib.ListN.{length}
use borrow.Author.Tests.{eq-eqb, ne_eqb, eqb-false}
use Rattle.shares.specs.Shares.{shares}
use Rattle.shares.proofs.Length.{shares_length}
use Rattle.words.specs.Bytes.{words_from}
use Rattle.words.proofs.Words.{words_count}
use Rattle.statement.specs.Block.{charges_from}

module _ (kind : ℕ) (amount : ℤ) (body : List ℕ) (from count : ℕ) where
  pub charges_one : (kind ≡ 1 → ⊥) → charges_from kind amount body from count ≡ amount ∷ []
  unfolding charges_from
  charges_one e = rw (ne_eqb kind 1 e)

  pub charges_shared : kind ≡ 1 → charges_from kind amount body from count ≡ shares amount (words_from body from count)
  unfolding charges_from
  charges_shared e = rw (eq-eqb kind 1 e)

  by : (t : Bool) → eqb kind 1 ≡ t → ((kind ≡ 1 → ⊥) → count ≡ 1) → length (charges_from kind amount body from count) ≡ count
  unfolding charges_from
  by true e one = rw e (shares_length amount (words_from body from count) ∙ words_count body from count)
  by false e one = rw e (sym (one (eqb-false kind 1 e)))

  pub charges_length : ((kind ≡ 1 → ⊥) → count ≡ 1) → length (charges_from kind amount body from count) ≡ count
  charges_length one = by (eqb kind 1) refl one

-- The marks of an area, found place by place.
use Rattle.std.proofs.Common.{◌≡◌, ℕ, List, [], ◌∷◌, refl, arith}
use Rattle.std.specs.List.{find}
use Rattle.std.specs.Option.{option_map_or}
use Rattle.std.proofs.lemmas.Grind.{common_steps}
use lib.Dec.{eqb}
use borrow.Author.Tests.{eq-eqb, ne_eqb}
use Rattle.recording.specs.declared.Place.{Place}
use Rattle.recording.specs.Record.{marks_of}

module _ (area : ℕ) where
  pub marks_here : (p : Place) (l : List Place) → p.area ≡ area → marks_of area (p ∷ l) ≡ p.marks
  unfolding marks_of
  marks_here p l h = simp (eq-eqb _ _ h)

  pub marks_past : (p : Place) (l : List Place) → (p.area ≡ area → ⊥) → marks_of area (p ∷ l) ≡ marks_of area l
  unfolding marks_of
  marks_past p l h = simp (ne_eqb _ _ h)

  -- the marks are those of the first place with the area
  pub marks_first : (l : List Place) → marks_of area l ≡ option_map_or (λ p. p.marks) (find (λ p. eqb p.area area) l) 0
  unfolding marks_of
  marks_first [] = refl
  marks_first (p ∷ l) = grind (arith, common_steps, marks_first l)

-- Day files added one after the other, and the same files in another order.
use Rattle.std.specs.Prelude.{ℕ, List, [], ◌∷◌, ◌++◌, ◌≡◌}
use Rattle.verdict.specs.Verdict.{number_of}
use Rattle.keeping.specs.Keeping.{add_rule, with_day}

-- the room once all are added
unfoldable pub added_all : List (List ℕ) → List ℕ → List ℕ
added_all [] room = room
added_all (file ∷ files) room = added_all files (with_day room file)

-- each of them is accepted
abbrev pub AllAccepted : List (List ℕ) → List ℕ → Type 0
AllAccepted [] room = Unit {0}
AllAccepted (file ∷ files) room = (number_of (add_rule room file) ≡ 0) × AllAccepted files (with_day room file)

-- a list that has the file somewhere
pub record Somewhere (file : List ℕ) (others files : List (List ℕ)) : Type 0 where
  pub front : List (List ℕ)
  pub behind : List (List ℕ)
  pub others_are : others ≡ front ++ behind
  pub files_are : files ≡ front ++ (file ∷ behind)

-- the same files in any order: the first stands somewhere, and the others are in some order around it
pub record Placed (Rest : List (List ℕ) → Type 0) (file : List ℕ) (files : List (List ℕ)) : Type 0 where
  pub others : List (List ℕ)
  pub there : Somewhere file others files
  pub rest : Rest others

unfoldable pub Reordered : List (List ℕ) → List (List ℕ) → Type 0
Reordered [] files' = files' ≡ []
Reordered (file ∷ files) files' = Placed (Reordered files) file files'

-- "adding in any order gives the same book": each is accepted in the other order too
pub record SameBook (files files' : List (List ℕ)) (room : List ℕ) : Type 0 where
  pub accepted : AllAccepted files' room
  pub same : added_all files' room ≡ added_all files room

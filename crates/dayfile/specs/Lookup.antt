-- "The lookup of an area by its number hands back the caller's own bytes of that body, or an empty part if the number is absent or the check
-- refuses the file."
use Rattle.std.specs.Prelude.{ℕ, zero, suc, cond, List, [], eqb}
use Rattle.verdict.specs.Verdict.{number_of}
use Rattle.contents.specs.File.{areas_of, number_at}
use Rattle.contents.specs.BodyPart.{Part, body_part}
use Rattle.dayfile.specs.Check.{check_of}

abbrev pub nothing : Part
nothing = record { from = 0; bytes = [] }

module _ (file : List ℕ) where
  -- of m entries from entry k on, the body of the first with that number; nothing where there is none
  unfoldable pub part_from : (area k m : ℕ) → Part
  part_from area k zero = nothing
  part_from area k (suc m) = cond (eqb (number_at file k) area) (body_part file k) (part_from area (suc k) m)

  unfoldable pub lookup_of : ℕ → Part
  lookup_of area = cond (eqb (number_of (check_of file)) 0) (part_from area 0 (areas_of file)) nothing

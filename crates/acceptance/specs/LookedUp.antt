-- What the lookup hands back, with no order of tests: of an accepted file the body of the area with that number, at its place; in every other case nothing.
use Rattle.std.specs.Prelude.{ℕ, ◌<◌, List, ◌≡◌}
use Rattle.verdict.specs.Verdict.{number_of}
use Rattle.contents.specs.File.{areas_of, number_at}
use Rattle.contents.specs.BodyPart.{body_part}
use Rattle.dayfile.specs.Check.{check_of}
use Rattle.dayfile.specs.Lookup.{nothing, lookup_of}

pub record LookedUp (file : List ℕ) (area : ℕ) : Type 0 where
  pub there : number_of (check_of file) ≡ 0 → (k : ℕ) → k < areas_of file → number_at file k ≡ area → lookup_of file area ≡ body_part file k
  pub absent : ((k : ℕ) → k < areas_of file → number_at file k ≡ area → ⊥) → lookup_of file area ≡ nothing
  pub refused : (number_of (check_of file) ≡ 0 → ⊥) → lookup_of file area ≡ nothing

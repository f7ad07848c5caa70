-- An area in a file by itself.
use Rattle.std.specs.Prelude.{ℕ, List, [], ◌∷◌, ◌≡◌}
use Rattle.contents.specs.File.{edition_of, day_of, areas_of, peak_of, number_at, body_at}
use Rattle.contents.specs.Parts.{file_of, area_of}

-- two files with the same peak hours, of which the other has area k of the first alone, with its number and its body
pub record AloneFile (k : ℕ) (file other : List ℕ) : Type 0 where
  pub peak : peak_of other ≡ peak_of file
  pub one : areas_of other ≡ 1
  pub number : number_at other 0 ≡ number_at file k
  pub body : body_at other 0 ≡ body_at file k

-- ---- the other file, constructed

unfoldable pub alone : List ℕ → ℕ → List ℕ
alone file k = file_of (edition_of file) (day_of file) (peak_of file) (area_of file k ∷ [])

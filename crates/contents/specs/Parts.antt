-- A day file by its parts: the edition, the trading day, the peak hours, and for each area its number and its body. The contents are computed.
use Rattle.std.specs.Prelude.{ℕ, zero, suc, ◌+◌, ◌*◌, ◌/◌, List, [], ◌∷◌, ◌++◌, length, get_or}
use Rattle.words.specs.Bytes.{words_bytes}
use Rattle.contents.specs.File.{areas_of, number_at, body_at}

pub record Area : Type 0 where
  pub number : ℕ
  pub body : List ℕ

-- the words in an area's body
abbrev pub size_of : Area → ℕ
size_of area = length area.body / 4

-- "n entries of three words: area number, first word of its body, words in its body"; the first body at word `start`
unfoldable pub contents_of : ℕ → List Area → List ℕ
contents_of start [] = []
contents_of start (area ∷ areas) = area.number ∷ start ∷ size_of area ∷ contents_of (start + size_of area) areas

-- "Bodies follow in entry order without gaps"
unfoldable pub bodies_of : List Area → List ℕ
bodies_of [] = []
bodies_of (area ∷ areas) = area.body ++ bodies_of areas

-- the words before the bodies: "the first at word 4 + 3n"
abbrev pub front_of : (edition day peak : ℕ) → List Area → List ℕ
front_of edition day peak areas = edition ∷ day ∷ length areas ∷ peak ∷ contents_of (4 + 3 * length areas) areas

unfoldable pub file_of : (edition day peak : ℕ) → List Area → List ℕ
file_of edition day peak areas = words_bytes (front_of edition day peak areas) ++ bodies_of areas

-- ---- the parts of a file

abbrev pub area_of : List ℕ → ℕ → Area
area_of file k = record { number = number_at file k; body = body_at file k }

-- m areas from area k on
unfoldable pub areas_from : List ℕ → ℕ → ℕ → List Area
areas_from file k zero = []
areas_from file k (suc m) = area_of file k ∷ areas_from file (suc k) m

abbrev pub parts_of : List ℕ → List Area
parts_of file = areas_from file 0 (areas_of file)

-- ---- area k of some, from 0

abbrev pub area_at : List Area → ℕ → Area
area_at areas k = get_or areas k (record { number = 0; body = [] })

-- the words of the bodies before area k
unfoldable pub words_to : List Area → ℕ → ℕ
words_to areas zero = 0
words_to areas (suc k) = words_to areas k + size_of (area_at areas k)

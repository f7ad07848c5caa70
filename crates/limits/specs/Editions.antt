-- The bounds of each edition of the day file, and of a file by its first word.
use Rattle.std.specs.Prelude.{ℕ, ◌+◌, ◌*◌, ◌≤◌, Bool, true, ◌≡◌, eqb, leb, Option, Some, None}
use Rattle.limits.specs.declared.Limits.{Limits}
use Rattle.limits.specs.Ranges.{proved_areas, proved_points, proved_words, least_body_words}

-- the most areas, the most load points and, of those that bound them, the most bytes over all editions
abbrev pub most_areas : ℕ
most_areas = 8

-- "the record holds .. 8 at most": as many areas as a file may have
abbrev pub most_held : ℕ
most_held = most_areas

abbrev pub most_points : ℕ
most_points = 2

abbrev pub most_bytes : ℕ
most_bytes = 65536

unfoldable pub edition_one : Limits
edition_one = record { areas = most_areas; points = most_points; words = 2951; bytes = Some most_bytes }

-- "Word 0: edition, 1"
abbrev pub edition_known : ℕ → Bool
edition_known edition = eqb edition 1

abbrev pub KnownEdition : ℕ → Type 0
KnownEdition edition = edition ≡ 1

-- the edition whose files may have the most areas
abbrev pub widest_edition : ℕ
widest_edition = 1

-- the limits of a file by its first word: edition 1 is the only one
unfoldable pub limits_of : ℕ → Limits
limits_of edition = edition_one

-- ---- bytes: the bound can be absent

abbrev pub within : Option ℕ → ℕ → Bool
within (Some most) bytes = leb bytes most
within None bytes = true

abbrev pub bytes_allowed : Limits → ℕ → Bool
bytes_allowed limits bytes = within limits.bytes bytes

abbrev pub WithinBytes : Limits → ℕ → Type 0
WithinBytes limits bytes = (most : ℕ) → limits.bytes ≡ Some most → bytes ≤ most

-- ---- limits within the limits of the proofs

pub record Proved (limits : Limits) : Type 0 where
  pub areas : limits.areas ≤ proved_areas
  pub points : limits.points ≤ proved_points
  pub words : limits.words ≤ proved_words

-- ---- a file that marks every area that a record holds

-- a file may have so many areas, each of them of the smallest body
pub record RoomFor (n : ℕ) (limits : Limits) : Type 0 where
  pub areas : n ≤ limits.areas
  pub points : 1 ≤ limits.points
  pub words : least_body_words ≤ limits.words
  pub bytes : WithinBytes limits (4 * (4 + (3 + least_body_words) * n))

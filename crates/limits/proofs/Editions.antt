-- Every edition's limits lie within the limits of the proofs, and within the most over all editions.
use Prim.Native.Nat.{ℕ, ◌≤◌}
use Rattle.std.proofs.Common.{true, Option, Some, None}
use mathlib.Core.Path.{◌≡◌, refl}
use native.Mathlib.Omega.{arith}
use borrow.Author.Tests.{le-leb}
use Rattle.limits.specs.declared.Limits.{Limits}
use Rattle.limits.specs.Editions.{most_areas, most_held, most_bytes, edition_one, widest_edition}
use Rattle.limits.specs.Editions.{limits_of, KnownEdition, within, bytes_allowed, WithinBytes, Proved, RoomFor}

pub proved : (edition : ℕ) → Proved (limits_of edition)
unfolding limits_of edition_one
proved edition = record { areas = omega arith; points = omega arith; words = omega arith }

pub areas_most : (edition : ℕ) → (limits_of edition).areas ≤ most_areas
unfolding limits_of edition_one
areas_most edition = omega arith

pub bytes_most : (edition : ℕ) → (most : ℕ) × ((limits_of edition).bytes ≡ Some most) × (most ≤ most_bytes)
unfolding limits_of edition_one
bytes_most edition = (most_bytes, refl, omega arith)

-- the widest edition has room for every area that a record holds
pub widest_known : KnownEdition widest_edition
widest_known = refl

pub widest_room : RoomFor most_held (limits_of widest_edition)
unfolding limits_of edition_one
widest_room = record { areas = omega arith; points = omega arith; words = omega arith; bytes = λ most e. grind arith }

-- the test of the bytes, and what it says
module _ (limits : Limits) (bytes : ℕ) where
  within_by : (bound : Option ℕ) → within bound bytes ≡ true → (most : ℕ) → bound ≡ Some most → bytes ≤ most
  within_by (Some bound) h most e = grind (arith, h, e)
  within_by None h most e = absurd cc

  pub bytes_within : bytes_allowed limits bytes ≡ true → WithinBytes limits bytes
  bytes_within = within_by limits.bytes

  test_by : (bound : Option ℕ) → ((most : ℕ) → bound ≡ Some most → bytes ≤ most) → within bound bytes ≡ true
  test_by (Some bound) h = le-leb bytes bound (h bound refl)
  test_by None h = refl

  pub bytes_test : WithinBytes limits bytes → bytes_allowed limits bytes ≡ true
  bytes_test = test_by limits.bytes

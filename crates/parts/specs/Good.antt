-- The parts that make a file that the check accepts within given limits.
use Rattle.std.specs.Prelude.{ℕ, zero, suc, ◌+◌, ◌*◌, ◌≤◌, ◌<◌, true, List, ◌⊎◌, ◌≡◌, length}
use Rattle.limits.specs.declared.Limits.{Limits}
use Rattle.limits.specs.Ranges.{largest_number, least_body_words, peak_word}
use Rattle.limits.specs.Editions.{KnownEdition, WithinBytes}
use Rattle.calendar.specs.Date.{real_date}
use Rattle.body.specs.Layout.{kind_of}
use Rattle.body.specs.Kept.{Sound}
use Rattle.contents.specs.Parts.{Area, size_of, area_at, words_to}

module _ (areas : List Area) where
  -- how many of the areas before area k are CISO
  unfoldable pub ciso_to : ℕ → ℕ
  ciso_to zero = 0
  ciso_to (suc k) = ciso_to k + kind_of (area_at areas k).body

  -- the number of the area before area k; 0 before the first
  unfoldable pub number_to : ℕ → ℕ
  number_to zero = 0
  number_to (suc k) = (area_at areas k).number

pub record GoodArea (limits : Limits) (areas : List Area) (k : ℕ) : Type 0 where
  pub rising : number_to areas k < (area_at areas k).number
  pub small : (area_at areas k).number ≤ largest_number
  pub whole : length (area_at areas k).body ≡ 4 * size_of (area_at areas k)
  pub least : least_body_words ≤ size_of (area_at areas k)
  pub most : size_of (area_at areas k) ≤ limits.words
  pub sound : Sound limits.points (area_at areas k).body
  pub one_ciso : ciso_to areas k + kind_of (area_at areas k).body ≤ 1

pub record Good (limits : Limits) (edition day peak : ℕ) (areas : List Area) : Type 0 where
  pub known : KnownEdition edition
  pub real : real_date day ≡ true
  pub some : 1 ≤ length areas
  pub few : length areas ≤ limits.areas
  pub peak_known : (peak ≡ 0) ⊎ (peak ≡ peak_word)
  pub area : (k : ℕ) → k < length areas → GoodArea limits areas k
  pub fits : WithinBytes limits (4 * (4 + 3 * length areas + words_to areas (length areas)))

-- Neighbouring coordinators merged into one: K, the numbers and the demands of all 24 hours are others, everything else is the same.
use Rattle.std.specs.Prelude.{ℕ, zero, suc, ◌+◌, ◌*◌, ◌-◌, ◌≤◌, ◌<◌, cond, List, [], ◌∷◌, ◌++◌, map, ◌≡◌, eqb}
use Rattle.words.specs.Word.{word_at}
use Rattle.limits.specs.Ranges.{day_hours, largest_number}
use Rattle.body.specs.Layout.{kind_of, points_of, coordinators_of, coordinator_at, coordinator_before, hour_at, demands_of}
use Rattle.contents.specs.File.{edition_of, day_of, peak_of, areas_of, number_at, body_at}
use Rattle.contents.specs.Parts.{Area, file_of, parts_of}
use Rattle.words.specs.Bytes.{words_bytes, words_from}
use Rattle.exact.specs.Total.{total}
use Rattle.shares.specs.Shares.{merged_at}

-- two bodies with the same head but for K, and the same hours but for the demands
pub record SameHours (body other : List ℕ) : Type 0 where
  -- kind, EDAM flag, persistent days, hub prices, load points
  pub head : (j : ℕ) → j < 6 → word_at other j ≡ word_at body j
  -- the eight numbers and the intervals of an hour
  pub hour : (h j : ℕ) → h < day_hours → j < 8 + 24 * points_of body → word_at other (hour_at other h + j) ≡ word_at body (hour_at body h + j)

-- the n coordinators from place i on, from 0, are one in the other body
pub record Merged (i n : ℕ) (body other : List ℕ) : Type 0 where
  pub some : 1 ≤ n
  pub inside : i + n ≤ coordinators_of body
  pub fewer : coordinators_of other + n ≡ coordinators_of body + 1
  pub same : SameHours body other
  pub demands : (h : ℕ) → h < day_hours → demands_of other h ≡ merged_at total i n (demands_of body h)

-- two files with the same peak hours and areas, and the same bodies but that of the CISO area, in which the n coordinators from place i on are one
pub record MergedFile (i n : ℕ) (file other : List ℕ) : Type 0 where
  pub peak : peak_of other ≡ peak_of file
  pub areas : areas_of other ≡ areas_of file
  pub number : (k : ℕ) → k < areas_of file → number_at other k ≡ number_at file k
  pub ciso : (k : ℕ) → k < areas_of file → kind_of (body_at file k) ≡ 1 → Merged i n (body_at file k) (body_at other k)
  pub rest : (k : ℕ) → k < areas_of file → (kind_of (body_at file k) ≡ 1 → ⊥) → body_at other k ≡ body_at file k

-- ---- the other body and the other file, constructed

-- f 0, f 1, .. one behind the other, n of them
unfoldable pub joined : (ℕ → List ℕ) → ℕ → List ℕ
joined f zero = []
joined f (suc n) = joined f n ++ f n

module _ (i n number : ℕ) (body : List ℕ) where
  -- the n coordinators from place i on may be one, under a number that keeps the order
  pub record Mergeable : Type 0 where
    pub some : 1 ≤ n
    pub inside : i + n ≤ coordinators_of body
    pub above : coordinator_before body i < number
    pub under : i + n < coordinators_of body → number < coordinator_at body (i + n)
    pub small : number ≤ largest_number

  -- the head with its smaller K, and the coordinator numbers
  abbrev pub merged_front : List ℕ
  merged_front = words_from body 0 6 ++ ((coordinators_of body + 1 - n) ∷ merged_at (λ _. number) i n (words_from body 7 (coordinators_of body)))

  -- an hour: its numbers and intervals as they are, and the demands with those of the neighbours added
  abbrev pub merged_hour : ℕ → List ℕ
  merged_hour h = words_from body (hour_at body h) (8 + 24 * points_of body) ++ merged_at total i n (demands_of body h)

  unfoldable pub merged_body : List ℕ
  merged_body = words_bytes (merged_front ++ joined merged_hour day_hours)

abbrev pub merged_area : (i n number : ℕ) → Area → Area
merged_area i n number area =
    record { number = area.number; body = cond (eqb (kind_of area.body) 1) (merged_body i n number area.body) area.body }

-- the file with the n coordinators of the CISO area from place i on merged into one
unfoldable pub merge : (i n number : ℕ) → List ℕ → List ℕ
merge i n number file = file_of (edition_of file) (day_of file) (peak_of file) (map (merged_area i n number) (parts_of file))

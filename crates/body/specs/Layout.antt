-- Where each number of a body stands. A body is the bytes of one area; its words are counted from its own start.
use Rattle.std.specs.Prelude.{ℕ, zero, suc, ◌+◌, ◌*◌, List, ℤ}
use Rattle.words.specs.Word.{word_at, signed_of}
use Rattle.words.specs.Bytes.{words_from}
use Rattle.limits.specs.Ranges.{day_hours}
use Rattle.hour.specs.Layout.{hour_words}

-- ---- sizes

-- "Body words = 7 + K + 24(8 + 24L + K)"
abbrev pub body_words : ℕ → ℕ → ℕ
body_words points coordinators = 7 + coordinators + day_hours * hour_words points coordinators

-- the first word of hour h, from 0: the hour ending h + 1
unfoldable pub hour_start : ℕ → ℕ → ℕ → ℕ
hour_start points coordinators h = 7 + coordinators + h * hour_words points coordinators

module _ (body : List ℕ) where
  -- ---- the head

  -- 1 CISO, 0 other
  abbrev pub kind_of : ℕ
  kind_of = word_at body 0

  abbrev pub flag_of : ℕ
  flag_of = word_at body 1

  -- persistent days, d
  abbrev pub days_of : ℕ
  days_of = word_at body 2

  abbrev pub hub_price_a : ℤ
  hub_price_a = signed_of (word_at body 3)

  abbrev pub hub_price_b : ℤ
  hub_price_b = signed_of (word_at body 4)

  -- load points, L
  abbrev pub points_of : ℕ
  points_of = word_at body 5

  -- coordinators, K
  abbrev pub coordinators_of : ℕ
  coordinators_of = word_at body 6

  -- the number of coordinator i, from 0
  abbrev pub coordinator_at : ℕ → ℕ
  coordinator_at i = word_at body (7 + i)

  -- the number of the coordinator before coordinator i; 0 before the first
  unfoldable pub coordinator_before : ℕ → ℕ
  coordinator_before zero = 0
  coordinator_before (suc i) = coordinator_at i

  -- ---- an hour

  abbrev pub hour_at : ℕ → ℕ
  hour_at h = hour_start points_of coordinators_of h

  -- the deficiencies: 0 to 3 upward (energy, regulation up, spin, non-spin), 4 and 5 downward (energy, regulation down)
  abbrev pub deficiency_at : ℕ → ℕ → ℕ
  deficiency_at h i = word_at body (hour_at h + i)

  -- the upward imbalance reserve requirement, Q
  abbrev pub requirement_at : ℕ → ℕ
  requirement_at h = word_at body (hour_at h + 6)

  abbrev pub mec_at : ℕ → ℤ
  mec_at h = signed_of (word_at body (hour_at h + 7))

  -- the first of an hour's interval words: 12 pairs for each load point
  abbrev pub intervals_at : ℕ → ℕ
  intervals_at h = hour_at h + 8

  abbrev pub quantity_at : ℕ → ℕ → ℕ
  quantity_at h i = word_at body (intervals_at h + 2 * i)

  -- an interval's price as it stands in the file: a signed word, or missing
  abbrev pub price_at : ℕ → ℕ → ℕ
  price_at h i = word_at body (intervals_at h + 2 * i + 1)

  -- the first of an hour's demand words: one for each coordinator
  abbrev pub demands_at : ℕ → ℕ
  demands_at h = hour_at h + 8 + 24 * points_of

  abbrev pub demand_at : ℕ → ℕ → ℕ
  demand_at h i = word_at body (demands_at h + i)

  -- the demands of an hour, one for each coordinator
  abbrev pub demands_of : ℕ → List ℕ
  demands_of h = words_from body (demands_at h) coordinators_of

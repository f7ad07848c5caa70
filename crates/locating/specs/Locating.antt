-- Where a word of a day file stands (docs/RULES.md, section 2): the head, the contents, the bodies, each with its head, its coordinators and its hours.
use Rattle.std.specs.Prelude.{ℕ, zero, suc, ◌+◌, ◌*◌, ◌-◌, ◌/◌, ◌%◌, Bool, cond, ◌&&◌, List, eqb, leb, ltb, length}
use Rattle.words.specs.Word.{word_at}
use Rattle.hour.specs.Layout.{hour_words}
use Rattle.locating.specs.declared.Field.{Field}
use Rattle.locating.specs.declared.Field.TheVariants.{Edition, TradingDay, Areas, PeakWord, AreaNumber, FirstWord, Words, Kind, Flag, PersistentDays}
use Rattle.locating.specs.declared.Field.TheVariants.{HubPriceA, HubPriceB, LoadPoints, Coordinators, Coordinator, UpwardEnergy, RegulationUp, Spin}
use Rattle.locating.specs.declared.Field.TheVariants.{NonSpin, DownwardEnergy, RegulationDown, Requirement, Mec, IntervalQuantity, IntervalPrice, Demand}
use Rattle.locating.specs.declared.Field.TheVariants.{Nowhere}
use Rattle.locating.specs.declared.Place.{Place}

-- ---- the words of each part, by their order

abbrev pub head_field : ℕ → Field
head_field word = cond (eqb word 0) Edition (cond (eqb word 1) TradingDay (cond (eqb word 2) Areas PeakWord))

abbrev pub entry_field : ℕ → Field
entry_field word = cond (eqb word 0) AreaNumber (cond (eqb word 1) FirstWord Words)

abbrev pub body_field : ℕ → Field
body_field word =
    cond (eqb word 0) Kind
    (cond (eqb word 1) Flag
    (cond (eqb word 2) PersistentDays
    (cond (eqb word 3) HubPriceA
    (cond (eqb word 4) HubPriceB
    (cond (eqb word 5) LoadPoints Coordinators)))))

abbrev pub number_field : ℕ → Field
number_field word =
    cond (eqb word 0) UpwardEnergy
    (cond (eqb word 1) RegulationUp
    (cond (eqb word 2) Spin
    (cond (eqb word 3) NonSpin
    (cond (eqb word 4) DownwardEnergy
    (cond (eqb word 5) RegulationDown
    (cond (eqb word 6) Requirement Mec))))))

-- pairs of a quantity and a price
abbrev pub interval_field : ℕ → Field
interval_field word = cond (eqb (word % 2) 0) (IntervalQuantity (word / 2 + 1)) (IntervalPrice (word / 2 + 1))

-- eight numbers, 12 pairs for each of the L load points, the demands
unfoldable pub hour_field : (points word : ℕ) → Field
hour_field points word =
    cond (ltb word 8) (number_field word)
    (cond (ltb word (8 + 24 * points)) (interval_field (word - 8)) (Demand (word - (8 + 24 * points) + 1)))

-- the body of entry k, with L load points and K coordinators: seven head words, the coordinators, the hours
unfoldable pub in_body : (k points coordinators word : ℕ) → Place
in_body k points coordinators word =
    cond (ltb word 7) (record { entry = k + 1; hour = 0; field = body_field word })
    (cond (ltb (word - 7) coordinators) (record { entry = k + 1; hour = 0; field = Coordinator (word - 7 + 1) })
    (record {
      entry = k + 1;
      hour = (word - 7 - coordinators) / hour_words points coordinators + 1;
      field = hour_field points ((word - 7 - coordinators) % hour_words points coordinators);
    }))

-- ---- the file, which may be one that is refused

module _ (file : List ℕ) where
  -- word i; 0 past the last whole word
  unfoldable pub word_within : ℕ → ℕ
  word_within i = cond (leb (length file / 4) i) 0 (word_at file i)

  abbrev pub start_within : ℕ → ℕ
  start_within k = word_within (4 + 3 * k + 1)

  abbrev pub size_within : ℕ → ℕ
  size_within k = word_within (4 + 3 * k + 2)

  module _ (word : ℕ) where
    -- whether the body of entry k holds the word
    abbrev pub holds : ℕ → Bool
    holds k = leb (start_within k) word && ltb word (start_within k + size_within k)

    -- of m entries from entry k on the first whose body holds it; the one behind them where none does
    unfoldable pub holder_from : (k m : ℕ) → ℕ
    holder_from k zero = k
    holder_from k (suc m) = cond (holds k) k (holder_from (suc k) m)

  -- the word in the body of entry k
  unfoldable pub in_body_of : (k word : ℕ) → Place
  in_body_of k word = in_body k (word_within (start_within k + 5)) (word_within (start_within k + 6)) (word - start_within k)

  -- the word behind the contents of n entries
  unfoldable pub behind_contents : (n word : ℕ) → Place
  behind_contents n word =
      let k = holder_from word 0 n in
      cond (eqb k n) (record { entry = 0; hour = 0; field = Nowhere }) (in_body_of k word)

  unfoldable pub place_of : ℕ → Place
  place_of word =
      cond (ltb word 4) (record { entry = 0; hour = 0; field = head_field word })
      (cond (ltb word (4 + 3 * word_within 2)) (record { entry = (word - 4) / 3 + 1; hour = 0; field = entry_field ((word - 4) % 3) })
      (behind_contents (word_within 2) word))

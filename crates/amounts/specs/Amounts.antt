-- The amounts (docs/RULES.md, sections 3 to 7) of an hour of one area's body, under the terms of its day: the peak word and the area's persistent days d.
use Rattle.std.specs.Prelude.{ℕ, zero, suc, ◌+◌, ◌*◌, max, Bool, cond, not, ◌&&◌, List, eqb, leb, ℤ, pos, ◌+ℤ◌, take, drop}
use Rattle.words.specs.Word.{word_at}
use Rattle.limits.specs.Ranges.{day_hours, least_present}
use Rattle.verdict.specs.Verdict.{Accepted, Verdict}
use Rattle.verdict.specs.declared.Refusal.TheVariants.{PriceWithoutQuantity, TooFewIntervals}
use Rattle.verdict.specs.First.{rule◌else◌then◌}
use Rattle.body.specs.Layout.{flag_of, hub_price_a, hub_price_b, points_of, hour_at, requirement_at, mec_at, intervals_at}
use Rattle.price.specs.Price.{PriceAnswer, average_price, answer_price, answer_number, answer_count}
use Rattle.surcharge.specs.declared.Terms.{Terms}
use Rattle.surcharge.specs.declared.Day.{Day}
use Rattle.surcharge.specs.Surcharge.{peak_hour, tier_of, greater_price, surcharge_of, on_peak_of, surcharge_in_cents, credit_in_cents, off_peak_of, downward_of}
use Rattle.surcharge.specs.Surcharge.{needs_price, day_of}
use Rattle.amounts.specs.declared.Hour.{Hour}
use Rattle.amounts.specs.declared.Amounts.{Amounts}

-- the highest of some numbers over the peak hours among the first n hours; 0 without peak hours
unfoldable pub highest : Terms → (ℕ → ℕ) → ℕ → ℕ
highest terms numbers zero = 0
highest terms numbers (suc n) = max (highest terms numbers n) (cond (peak_hour terms n) (numbers n) 0)

module _ (body : List ℕ) where
  -- U, "the four upward deficiencies added", of the hour that starts at word `at`
  unfoldable pub upward_from : ℕ → ℕ
  upward_from at = word_at body at + word_at body (at + 1) + word_at body (at + 2) + word_at body (at + 3)

  -- W, "the two downward deficiencies"
  unfoldable pub downward_from : ℕ → ℕ
  downward_from at = word_at body (at + 4) + word_at body (at + 5)

  abbrev pub upward_at : ℕ → ℕ
  upward_at h = upward_from (hour_at body h)

  unfoldable pub tier_at : ℕ → ℕ
  tier_at h = tier_of (upward_at h) (requirement_at body h)

  unfoldable pub hub_price : ℤ
  hub_price = greater_price (hub_price_a body) (hub_price_b body)

  -- the interval pairs, 12 for each load point, that start at word `from`
  abbrev pub pairs_from : ℕ → List ℕ
  pairs_from from = take (4 * (24 * points_of body)) (drop (4 * from) body)

  -- their price
  unfoldable pub price_from : ℕ → PriceAnswer
  price_from from = average_price (pairs_from from) (12 * points_of body)

  abbrev pub price_answer_at : ℕ → PriceAnswer
  price_answer_at h = price_from (intervals_at body h)

  abbrev pub hour_price : ℕ → ℤ
  hour_price h = answer_price (price_answer_at h)

module _ (terms : Terms) (body : List ℕ) where
  -- "Day tier = highest tier of the peak hours"
  abbrev pub day_tier : ℕ
  day_tier = highest terms (tier_at body) day_hours

  -- M, "highest U of the peak hours"
  abbrev pub day_upward : ℕ
  day_upward = highest terms (upward_at body) day_hours

  -- S of the day
  unfoldable pub day_surcharge : ℤ
  day_surcharge = surcharge_of terms day_upward (hub_price body) day_tier

  -- the amounts of an hour at a price; "All amounts of an area with EDAM flag 0 are 0"
  unfoldable pub on_peak_at_price : ℕ → ℤ → ℤ
  on_peak_at_price h price =
      cond (eqb (flag_of body) 1 && peak_hour terms h) (on_peak_of day_surcharge day_upward day_tier (tier_at body h) price) (pos 0)

  unfoldable pub off_peak_at_price : ℕ → ℤ → ℤ
  off_peak_at_price h price =
      cond (eqb (flag_of body) 1 && not (peak_hour terms h)) (off_peak_of terms (upward_at body h) (tier_at body h) price) (pos 0)

  -- the three amounts, at the hour's own price
  unfoldable pub on_peak_amount : ℕ → ℤ
  on_peak_amount h = on_peak_at_price h (hour_price body h)

  unfoldable pub off_peak_amount : ℕ → ℤ
  off_peak_amount h = off_peak_at_price h (hour_price body h)

  unfoldable pub downward_amount : ℕ → ℤ
  downward_amount h = cond (eqb (flag_of body) 1) (downward_of terms (downward_from body (hour_at body h)) (mec_at body h)) (pos 0)

  -- the hours that show S and a credit: "both are 0 outside peak hours, .. and with flag 0"
  abbrev pub surcharge_hour : ℕ → Bool
  surcharge_hour h = eqb (flag_of body) 1 && peak_hour terms h

  unfoldable pub surcharge_at : ℕ → ℤ
  surcharge_at h = cond (surcharge_hour h) (surcharge_in_cents day_surcharge day_tier) (pos 0)

  unfoldable pub credit_at_price : ℕ → ℤ → ℤ
  credit_at_price h price = cond (surcharge_hour h) (credit_in_cents day_upward day_tier (tier_at body h) price) (pos 0)

  unfoldable pub credit_at : ℕ → ℤ
  credit_at h = credit_at_price h (hour_price body h)

  -- A, "the hour's three amounts added"
  unfoldable pub amount_at : ℕ → ℤ
  amount_at h = on_peak_amount h +ℤ off_peak_amount h +ℤ downward_amount h

  unfoldable pub price_needed : ℕ → Bool
  price_needed h = needs_price (flag_of body) (peak_hour terms h) day_tier (tier_at body h)

  -- the price of hour h where an amount asks for it, 0 where none does
  unfoldable pub needed_price : ℕ → ℤ
  needed_price h = cond (price_needed h) (hour_price body h) (pos 0)

-- ---- what a price that is needed must keep

-- whether a price that is needed, of L load points, can be settled with: not "with fewer than 9L present of its 12L" and, after that, not where it "has no
-- quantity under it"; `place` is its place in the file
abbrev pub usable_rule : (place points : ℕ) → PriceAnswer → Verdict
usable_rule place points answer =
    rule leb (least_present * points) (answer_count answer) else TooFewIntervals place then
    rule not (eqb (answer_number answer) 11) else PriceWithoutQuantity place then
    Accepted

-- of hour h, in the body that starts at word `start` of the file: "first interval word of the hour"
unfoldable pub price_rule : Terms → (start : ℕ) → List ℕ → ℕ → Verdict
price_rule terms start body h =
    cond (price_needed terms body h) (usable_rule (start + intervals_at body h) (points_of body) (price_answer_at body h)) Accepted

-- ---- the same as the structs of the code

-- the facts of an area's day
unfoldable pub day_facts : Terms → List ℕ → Day
day_facts terms body = day_of terms (day_tier terms body) (day_upward terms body) (hub_price body)

-- U and the tier of an hour that counts; 0 and 0 of one that does not
unfoldable pub hour_facts : Bool → List ℕ → ℕ → Hour
hour_facts counts body at =
    cond counts
    (record { upward = record { 0 = upward_from body at }; tier = tier_of (upward_from body at) (word_at body (at + 6)) })
    (record { upward = record { 0 = 0 }; tier = 0 })

unfoldable pub amounts_of : Terms → List ℕ → ℕ → Amounts
amounts_of terms body h =
    record {
      on = record { 0 = on_peak_amount terms body h };
      off = record { 0 = off_peak_amount terms body h };
      down = record { 0 = downward_amount terms body h };
      surcharge = record { 0 = surcharge_at terms body h };
      credit = record { 0 = credit_at terms body h };
    }

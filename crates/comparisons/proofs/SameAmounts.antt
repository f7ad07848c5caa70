-- Bodies with the same head but for K, and the same hours but for the demands and for quantities whose price is missing, have the same amounts.
use Prim.Native.Nat.{ℕ, zero, suc, ◌+◌, ◌*◌, ◌<◌, max}
use mathlib.Core.Bool.{true, cond}
use mathlib.Core.List.{List}
use mathlib.Core.Logic.{◌⊎◌, inl, inr, ⊎_elim}
use mathlib.Core.Path.{◌≡◌, refl, sym, ap, ap₂, ◌∙◌}
use native.Mathlib.Nat.{add-zero}
use native.Mathlib.Omega.{arith}
use lib.ListN.{take, drop}
use Rattle.limits.specs.Ranges.{day_hours}
use Rattle.verdict.specs.Verdict.{number_of, Accepted}
use Rattle.words.specs.Word.{word_at, signed_of}
use Rattle.words.proofs.Part.{word_part}
use Rattle.hour.specs.Layout.{missing}
use Rattle.body.specs.Layout.{kind_of, flag_of, points_of, hour_at, intervals_at, quantity_at, price_at}
use Rattle.price.specs.Price.{with_interval, quantity_of, price_of, average_of, answer_of}
use Rattle.price.specs.declared.Average.{Average}
use Rattle.price.proofs.MissingPrices.{missing_changes_nothing}
use Rattle.surcharge.specs.declared.Terms.{Terms}
use Rattle.amounts.proofs.Prices.{anywhere}
use Rattle.surcharge.specs.Surcharge.{peak_hour, greater_price}
use Rattle.amounts.specs.Amounts.{highest, upward_from, downward_from, upward_at, tier_at, day_tier, day_upward, day_surcharge, hub_price, price_from}
use Rattle.amounts.specs.Amounts.{on_peak_at_price, off_peak_at_price, credit_at_price, on_peak_amount, off_peak_amount, downward_amount, surcharge_at, credit_at}
use Rattle.amounts.specs.Amounts.{price_answer_at, amount_at, amounts_of, price_needed, usable_rule, price_rule}

pub record SameAmounts (body other : List ℕ) : Type 0 where
  -- kind, EDAM flag, persistent days, hub prices, load points
  pub head : (j : ℕ) → j < 6 → word_at other j ≡ word_at body j
  pub number : (h o : ℕ) → h < day_hours → o < 8 → word_at other (hour_at other h + o) ≡ word_at body (hour_at body h + o)
  pub price : (h m : ℕ) → h < day_hours → m < 12 * points_of body → price_at other h m ≡ price_at body h m
  pub quantity : (h m : ℕ) → h < day_hours → m < 12 * points_of body → (missing (price_at body h m) ≡ true)
      ⊎ (quantity_at other h m ≡ quantity_at body h m)

highest_same : (terms : Terms) (f g : ℕ → ℕ) (n : ℕ) → ((h : ℕ) → h < n → f h ≡ g h) → highest terms f n ≡ highest terms g n
unfolding highest
highest_same terms f g zero each = refl
highest_same terms f g (suc n) each =
    ap₂ (λ a b. max a (cond (peak_hour terms n) b 0)) (highest_same terms f g n (λ h p. each h (omega arith))) (each n (omega arith))

-- ---- an average over intervals that differ at most in quantities whose price is missing

one_interval : (average : Average) (quantity quantity' price : ℕ) → (missing price ≡ true) ⊎ (quantity ≡ quantity')
    → with_interval average quantity price ≡ with_interval average quantity' price
one_interval average quantity quantity' price (inl e) =
    missing_changes_nothing average quantity price e ∙ sym (missing_changes_nothing average quantity' price e)
one_interval average quantity quantity' price (inr e) = rw e

average_same : (others pairs : List ℕ) (n : ℕ) → ((m : ℕ) → m < n → price_of others m ≡ price_of pairs m)
    → ((m : ℕ) → m < n → (missing (price_of pairs m) ≡ true) ⊎ (quantity_of others m ≡ quantity_of pairs m)) → average_of others n
    ≡ average_of pairs n
unfolding average_of
average_same others pairs zero price quantity = refl
average_same others pairs (suc n) price quantity =
    rw (average_same others pairs n (λ m p. price m (omega arith)) (λ m p. quantity m (omega arith)), price n (omega arith))
    (one_interval (average_of pairs n) (quantity_of others n) (quantity_of pairs n) (price_of pairs n) (quantity n (omega arith)))

-- a word of an hour's pairs, which start at word `at`
pair_word : (bytes : List ℕ) (at count j k : ℕ) → j < count → at + j ≡ k → word_at (take (4 * count) (drop (4 * at) bytes)) j ≡ word_at bytes k
pair_word bytes at count j k p e = word_part bytes at count j p ∙ ap (word_at bytes) e

module _ (body other : List ℕ) (same : SameAmounts body other) where
  pub kind_same : kind_of other ≡ kind_of body
  kind_same = same.head 0 (omega arith)

  flag_same : flag_of other ≡ flag_of body
  flag_same = same.head 1 (omega arith)

  points-same : points_of other ≡ points_of body
  points-same = same.head 5 (omega arith)

  hub-same : hub_price other ≡ hub_price body
  unfolding hub_price
  hub-same = ap₂ (λ a b. greater_price (signed_of a) (signed_of b)) (same.head 3 (omega arith)) (same.head 4 (omega arith))

  module _ (h : ℕ) (below : h < day_hours) where
    first : word_at other (hour_at other h) ≡ word_at body (hour_at body h)
    first = ap (word_at other) (sym (add-zero (hour_at other h))) ∙ same.number h 0 below (omega arith) ∙ ap (word_at body) (add-zero (hour_at body h))

    upward-same : upward_at other h ≡ upward_at body h
    unfolding upward_from
    upward-same = rw (first, same.number h 1 below (omega arith), same.number h 2 below (omega arith), same.number h 3 below (omega arith))

    tier-same : tier_at other h ≡ tier_at body h
    unfolding tier_at
    tier-same = rw (upward-same, same.number h 6 below (omega arith))

    price_same : price_answer_at other h ≡ price_answer_at body h
    unfolding price_from
    price_same =
        let points = points_of body in
        ap answer_of
        (ap (λ l. average_of (take (4 * (24 * l)) (drop (4 * intervals_at other h) other)) (12 * l)) points-same
        ∙ average_same _ _ (12 * points)
        (λ m p.
        pair_word other (intervals_at other h) (24 * points) (2 * m + 1) (intervals_at other h + 2 * m + 1) (omega arith) (omega arith)
        ∙ same.price h m below p
        ∙ sym (pair_word body (intervals_at body h) (24 * points) (2 * m + 1) (intervals_at body h + 2 * m + 1) (omega arith) (omega arith)))
        (λ m p.
        ⊎_elim
        (λ e. inl (rw (pair_word body (intervals_at body h) (24 * points) (2 * m + 1) (intervals_at body h + 2 * m + 1) (omega arith) (omega arith)) e))
        (λ e. inr (word_part other (intervals_at other h) (24 * points) (2 * m) (omega arith) ∙ e
        ∙ sym (word_part body (intervals_at body h) (24 * points) (2 * m) (omega arith))))
        (same.quantity h m below p)))

  module _ (terms : Terms) where
    day-tier-same : day_tier terms other ≡ day_tier terms body
    day-tier-same = highest_same terms (tier_at other) (tier_at body) day_hours tier-same

    day-upward-same : day_upward terms other ≡ day_upward terms body
    day-upward-same = highest_same terms (upward_at other) (upward_at body) day_hours upward-same

    s-same : day_surcharge terms other ≡ day_surcharge terms body
    unfolding day_surcharge
    s-same = rw (day-upward-same, hub-same, day-tier-same)

    module _ (h : ℕ) (below : h < day_hours) where
      on-peak-same : on_peak_amount terms other h ≡ on_peak_amount terms body h
      unfolding on_peak_at_price on_peak_amount
      on-peak-same = rw (flag_same, day-upward-same, s-same, day-tier-same, tier-same h below, price_same h below)

      off-peak-same : off_peak_amount terms other h ≡ off_peak_amount terms body h
      unfolding off_peak_at_price off_peak_amount
      off-peak-same = rw (flag_same, upward-same h below, tier-same h below, price_same h below)

      downward-same : downward_amount terms other h ≡ downward_amount terms body h
      unfolding downward_amount downward_from
      downward-same = rw (flag_same, same.number h 4 below (omega arith), same.number h 5 below (omega arith), same.number h 7 below (omega arith))

      surcharge-same : surcharge_at terms other h ≡ surcharge_at terms body h
      unfolding surcharge_at
      surcharge-same = rw (flag_same, s-same, day-tier-same)

      credit-same : credit_at terms other h ≡ credit_at terms body h
      unfolding credit_at_price credit_at
      credit-same = rw (flag_same, day-upward-same, day-tier-same, tier-same h below, price_same h below)

      pub amounts_same : amounts_of terms other h ≡ amounts_of terms body h
      unfolding amounts_of
      amounts_same = rw (on-peak-same, off-peak-same, downward-same, surcharge-same, credit-same)

      pub amount_same : amount_at terms other h ≡ amount_at terms body h
      unfolding amount_at
      amount_same = rw (on-peak-same, off-peak-same, downward-same)

      needed-same : price_needed terms other h ≡ price_needed terms body h
      unfolding price_needed
      needed-same = rw (flag_same, day-tier-same, tier-same h below)

      -- what the price refuses, but for where it stands
      pub price_rule_same : (start : ℕ)
          → price_rule terms start other h ≡ cond (price_needed terms body h) (usable_rule (start + intervals_at other h) (points_of body) (price_answer_at body h)) Accepted
      unfolding price_rule
      price_rule_same start = rw (needed-same, price_same h below, points-same)

      pub priced_same : (start : ℕ) → number_of (price_rule terms start other h) ≡ number_of (price_rule terms start body h)
      unfolding price_rule
      priced_same start =
          ap number_of (price_rule_same start)
          ∙ anywhere (price_needed terms body h) (start + intervals_at other h) (start + intervals_at body h) (points_of body) (price_answer_at body h)

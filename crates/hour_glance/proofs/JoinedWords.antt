-- What joined quantities and prices say of each, and of the hour.
use Rattle.std.proofs.Common.{◌≡◌, ℕ, ◌+◌, ◌*◌, ◌<◌, ◌≤◌, Bool, true, false, not, ◌&&◌, eqb, leb, List, nat_abs, sym, refl, ap, ◌∙◌, ap₂, add-one, arith, below_more, ne_eqb, eqb-true, le-leb}
use mathlib.Core.Logic.{dite}
use native.Mathlib.Decide.{dec_lt}
use lib.Bits.{bit_or, or_add_and, and_le_l}
use Rattle.exact.specs.Total.{total}
use Rattle.words.specs.Word.{word_at, signed_of}
use Rattle.words.specs.Bytes.{words_from}
use Rattle.words.proofs.Halves.{low, high}
use Rattle.limits.specs.Ranges.{most_market_price, most_quantity, most_demand, missing_price, least_present}
use Rattle.verdict.specs.Verdict.{number_of}
use Rattle.verdict.proofs.First.{all_accept}
use Rattle.hour.specs.Layout.{missing}
use Rattle.hour.specs.Gathered.{Gathered}
use Rattle.hour_glance.specs.Joined.{JoinedFrom, raised, near, small}
use Rattle.hour.specs.Plain.{present_from, quantity_from, plain_hour}
use Rattle.hour_glance.specs.Told.{AcceptedPlain}
use Rattle.hour.specs.Check.{pair_rule, interval_rule_at, numbers_rule, intervals_rule, hour_rule}
use Rattle.hour.proofs.Gathered.{joined_least, joined_sum, nothing_gathered}

joined_second : (a b : ℕ) → b ≤ bit_or a b
joined_second a b = omega (arith, or_add_and a b, and_le_l a b)

-- ---- a price near 0 is in range, and is not missing

near_price : (price : ℕ) → price < 4294967296 → raised price < near → nat_abs (signed_of price) ≤ most_market_price
near_price price fits below =
    dite (dec_lt price 2147483648) (λ l. rw (low price l) (omega arith)) (λ l. rw (high price (omega (arith, l)) fits) (omega (arith, l)))

near_present : (price : ℕ) → raised price < near → missing price ≡ false
near_present price below = ne_eqb price missing_price (λ e. omega arith)

pair_accepted : (place next quantity price : ℕ) → quantity ≤ most_quantity → nat_abs (signed_of price) ≤ most_market_price → missing price ≡ false
    → number_of (pair_rule place next quantity price) ≡ 0
pair_accepted place next quantity price q p there = rw (le-leb quantity most_quantity q, there, le-leb (nat_abs (signed_of price)) most_market_price p) refl

-- ---- one interval more is joined

module _ (body : List ℕ) (from : ℕ) where
  pub joined_none_yet : JoinedFrom body from 0 0 0
  unfolding present_from quantity_from
  joined_none_yet = record { quantity = λ i p. absurd (omega arith); price = λ i p. absurd (omega arith); all = λ l. (refl, refl) }

  pub joined_more : (n quantities prices quantity price higher : ℕ) → JoinedFrom body from n quantities prices
      → quantity ≡ word_at body (from + 2 * n) → price ≡ word_at body (from + 2 * n + 1) → price < 4294967296 → higher ≡ raised price
      → JoinedFrom body from (n + 1) (bit_or quantities quantity) (bit_or prices higher)
  unfolding present_from quantity_from
  joined_more n quantities prices quantity price higher before q p fits s =
      record {
        quantity = below_more (λ i. word_at body (from + 2 * i) ≤ bit_or quantities quantity) n
            (λ i b. omega (arith, before.quantity i b, joined_least quantities quantity)) (omega (arith, q, joined_second quantities quantity));
        price = below_more
            (λ i. (word_at body (from + 2 * i + 1) < 4294967296) × (raised (word_at body (from + 2 * i + 1)) ≤ bit_or prices higher)) n
            (λ i b. ((before.price i b).0, omega (arith, (before.price i b).1, joined_least prices higher)))
            (rw (← p) (fits, omega (arith, s, joined_second prices higher)));
        all = λ l.
            let b = before.all (omega (arith, l, joined_least prices higher)) in
            let there = near_present price (omega (arith, l, s, joined_second prices higher)) in
            rw (add-one, ← p, ← q, there) (omega (arith, b.0), joined_sum quantities (quantity_from body from n) quantity b.1);
      }

-- ---- the hour

module _ (body : List ℕ) (kind load count at numbers quantities prices : ℕ) (joined : JoinedFrom body (at + 8) (12 * load) quantities prices)
    (fewer : quantities < small) (nearby : prices < near) where
  intervals-accepted : (start : ℕ) → number_of (intervals_rule start body (at + 8) (12 * load)) ≡ 0
  unfolding intervals_rule interval_rule_at
  intervals-accepted start =
      all_accept (interval_rule_at start body (at + 8)) (12 * load)
      (λ i p.
      let below : raised (word_at body (at + 8 + 2 * i + 1)) < near = omega (arith, (joined.price i p).1) in
      pair_accepted _ _ (word_at body (at + 8 + 2 * i)) (word_at body (at + 8 + 2 * i + 1)) (omega (arith, joined.quantity i p))
      (near_price _ (joined.price i p).0 below) (near_present _ below))

  pub joined_hour : ((start : ℕ) → Gathered (numbers_rule start body at) numbers) → numbers ≡ 0 → eqb quantities 0 ≡ false
      → total (words_from body (at + 8 + 24 * load) count) ≤ most_demand → kind ≤ total (words_from body (at + 8 + 24 * load) count)
      → AcceptedPlain body kind load count at
  unfolding plain_hour
  joined_hour gathered none some sum demand =
      let all = joined.all nearby in
      record {
        accepted = λ start.
            let intervals : Gathered (intervals_rule start body (at + 8) (12 * load)) 0 = record { exact = rw (intervals-accepted start) refl } in
            eqb-true _ _ (sym (nothing_gathered start body load count at numbers 0 (gathered start) intervals) ∙ rw (none, le-leb _ _ sum) refl);
        plain = rw (all.0, ← all.1, some, le-leb (least_present * load) (12 * load) (omega arith), le-leb _ _ demand) refl;
      }

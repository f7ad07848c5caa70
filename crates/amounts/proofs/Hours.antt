-- The hours of a sound body are in range: their deficiencies, their interval pairs, and the highest of the peak hours.
use Prim.Native.Nat.{ℕ, zero, suc, ◌+◌, ◌*◌, ◌≤◌, ◌<◌, max, zero-le}
use mathlib.Core.Bool.{Bool, true, false, cond}
use mathlib.Core.List.{List}
use mathlib.Core.Path.{◌≡◌, refl}
use native.Mathlib.Nat.{add_assoc}
use native.Mathlib.Numerals.{add-one}
use native.Mathlib.Omega.{arith}
use lib.IntN.{nat_abs}
use lib.ListN.{length}
use lib.Signed.{lt_z}
use Rattle.words.proofs.Part.{word_part}
use Rattle.limits.specs.Ranges.{day_hours, most_hub_price, most_upward, proved_points}
use Rattle.body.specs.Layout.{hour_start, hour_at, intervals_at, points_of, coordinators_of, quantity_at, price_at, hub_price_a, hub_price_b}
use Rattle.hour.specs.Layout.{hour_words}
use Rattle.body.specs.Kept.{Sound}
use Rattle.body.proofs.Kept.{always, hour_inside}
use Rattle.price.specs.Price.{quantity_of, price_of}
use Rattle.price.specs.Ranged.{Ranged}
use Rattle.surcharge.specs.declared.Day.{Day}
use Rattle.surcharge.specs.declared.Terms.{Terms}
use Rattle.surcharge.specs.Surcharge.{peak_hour}
use Rattle.surcharge.proofs.Sizes.{pick}
use Rattle.amounts.specs.Amounts.{highest, upward_from, upward_at, tier_at, hour_facts, hub_price, pairs_from}
use Rattle.amounts.specs.Ranges.{HourRanged, PairsRanged, AtHour}
use Rattle.amounts.proofs.Quantities.{upward_small}

below_max : (m a b : ℕ) → a ≤ m → b ≤ m → max a b ≤ m
below_max m a b h k = omega arith

count : (m : ℕ) (t : Bool) (a : ℕ) → a ≤ m → cond t a 0 ≤ m
count m true a h = h
count m false a h = zero-le

pub highest_small : (m : ℕ) (terms : Terms) (numbers : ℕ → ℕ) (n : ℕ) → ((h : ℕ) → h < n → numbers h ≤ m) → highest terms numbers n ≤ m
unfolding highest
highest_small m terms numbers zero each = zero-le
highest_small m terms numbers (suc n) each =
    below_max m (highest terms numbers n) (cond (peak_hour terms n) (numbers n) 0)
    (highest_small m terms numbers n (λ h p. each h (omega arith)))
    (count m (peak_hour terms n) (numbers n) (each n (omega arith)))

pub highest_more : (terms : Terms) (numbers : ℕ → ℕ) (h : ℕ) → highest terms numbers (h + 1)
    ≡ max (highest terms numbers h) (cond (peak_hour terms h) (numbers h) 0)
unfolding highest
highest_more terms numbers h = rw (add-one h)

-- an hour that counts, and one that does not
pub hour_upward : (t : Bool) (body : List ℕ) (at : ℕ) → (hour_facts t body at).upward.0 ≡ cond t (upward_from body at) 0
unfolding hour_facts
hour_upward true body at = refl
hour_upward false body at = refl

pub hour_tier : (t : Bool) (body : List ℕ) (h : ℕ) → (hour_facts t body (hour_at body h)).tier ≡ cond t (tier_at body h) 0
unfolding hour_facts tier_at
hour_tier true body h = refl
hour_tier false body h = refl

module _ (body : List ℕ) (sound : Sound proved_points body) where
  module _ (h : ℕ) (below : h < day_hours) where
    pub hour_ranged : HourRanged body (hour_at body h)
    hour_ranged = record { room = omega (arith, hour_inside proved_points body sound h below); deficiency = λ i p. sound.deficiency h i below p always }

    -- where the walk over the hours is at hour h, the hour is in range, and the walk may go on
    module _ (at : ℕ) (here : at ≡ hour_at body h) where
      pub walk_ranged : HourRanged body at
      walk_ranged = rw here hour_ranged

      pub walk_on : (load coordinators : ℕ) → load ≡ points_of body → coordinators ≡ coordinators_of body → length body < 18446744073709551616
          → (at ≡ hour_start load coordinators h) × (at + hour_words load coordinators < 18446744073709551616)
      walk_on load coordinators e f small = rw (e, f) (here, omega (arith, hour_inside proved_points body sound h below))

    part : List ℕ
    part = pairs_from body (intervals_at body h)

    quantity-is : (i : ℕ) → i < 12 * points_of body → quantity_of part i ≡ quantity_at body h i
    unfolding part
    quantity-is i p = word_part body (intervals_at body h) (24 * points_of body) (2 * i) (omega arith)

    price-is : (i : ℕ) → i < 12 * points_of body → price_of part i ≡ price_at body h i
    unfolding part
    price-is i p = rw (add_assoc (intervals_at body h) (2 * i) 1) (word_part body (intervals_at body h) (24 * points_of body) (2 * i + 1) (omega arith))

    ranged : Ranged part (12 * points_of body)
    ranged =
        record {
          quantity = λ i p. rw (quantity-is i p) (sound.quantity h i below p always);
          price = λ i p. rw (price-is i p) (sound.price h i below p always);
        }

    pub pairs_ranged : PairsRanged body (points_of body) (intervals_at body h)
    unfolding part
    pairs_ranged =
        record { load_is = refl; few = (sound.points always).1; room = omega (arith, hour_inside proved_points body sound h below); ranged = ranged }

  -- M is at most 10,000 MW
  pub most_small : (terms : Terms) → highest terms (upward_at body) day_hours ≤ most_upward
  most_small terms = highest_small most_upward terms (upward_at body) day_hours (λ h p. upward_small body (hour_at body h) (hour_ranged h p))

  pub hub_small : nat_abs (hub_price body) ≤ most_hub_price
  unfolding hub_price
  hub_small = pick most_hub_price (lt_z (hub_price_a body) (hub_price_b body)) _ _ (sound.hub_b always) (sound.hub_a always)

-- the hour that starts at word `at`
module _ {terms : Terms} {day : Day} {body : List ℕ} {h at : ℕ} (k : AtHour terms day body h at) where
  pub hour_there : HourRanged body at
  hour_there = rw k.here (hour_ranged body k.sound h k.below)

  pub pairs_there : (load : ℕ) → load ≡ points_of body → PairsRanged body load (at + 8)
  pairs_there load e = rw (e, k.here) (pairs_ranged body k.sound h k.below)

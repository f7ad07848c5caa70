-- The rules of a body's words, said of other words of it; and what is known of a sound body.
use Prim.Native.Nat.{ℕ, zero, suc, ◌+◌, ◌*◌, ◌/◌, ◌≤◌, ◌<◌}
use mathlib.Core.List.{List}
use mathlib.Core.Path.{◌≡◌}
use native.Mathlib.Numerals.{add-one}
use native.Mathlib.Omega.{arith}
use lib.ListN.{length}
use Rattle.exact.specs.Total.{total}
use Rattle.words.specs.Bytes.{words_from}
use Rattle.words.proofs.Totals.{total_more, total_none}
use Rattle.limits.specs.Ranges.{day_hours, most_demand}
use Rattle.hour.specs.Layout.{hour_words}
use Rattle.body.specs.Layout.{body_words, kind_of, points_of, coordinators_of, hour_at, demands_at}
use Rattle.body.specs.Kept.{BodyKept, Always, Sound}
use Rattle.body.proofs.HourPlaces.{hour_room}

-- Where for each word j that stands there is a way `Under j` of saying the rules that covers it, they are kept wherever a word stands.
-- More load points may be allowed, and other CISO areas stand before.
pub kept_by : (Under : ℕ → ℕ → Type 0) (Stands : ℕ → Type 0) (most most' ciso ciso' : ℕ) (body : List ℕ) → most ≤ most'
    → (Stands 0 → ciso' + kind_of body ≤ 1) → ((j : ℕ) → Stands j → Under j j × BodyKept (Under j) most ciso body)
    → BodyKept Stands most' ciso' body
kept_by Under Stands most most' ciso ciso' body more one each =
    record {
      kind = λ g. let k = each 0 g in ((k.1.kind k.0).0, one g);
      flag = λ g. let k = each 1 g in k.1.flag k.0;
      days = λ g. let k = each 2 g in k.1.days k.0;
      hub_a = λ g. let k = each 3 g in k.1.hub_a k.0;
      hub_b = λ g. let k = each 4 g in k.1.hub_b k.0;
      points = λ g. let k = each 5 g in let p = k.1.points k.0 in (p.0, omega (arith, p.1));
      coordinators = λ g. let k = each 6 g in k.1.coordinators k.0;
      coordinator = λ i p g. let k = each _ g in k.1.coordinator i p k.0;
      deficiency = λ h i p q g. let k = each _ g in k.1.deficiency h i p q k.0;
      requirement = λ h p g. let k = each _ g in k.1.requirement h p k.0;
      mec = λ h p g. let k = each _ g in k.1.mec h p k.0;
      quantity = λ h i p q g. let k = each _ g in k.1.quantity h i p q k.0;
      price = λ h i p q g. let k = each _ g in k.1.price h i p q k.0;
      demand = λ h i p q g. let k = each _ g in k.1.demand h i p q k.0;
    }

pub always : Always
always = record {}

-- ---- of a sound body

module _ (most : ℕ) (body : List ℕ) (sound : Sound most body) where
  -- more load points may be allowed
  pub sound_more : (most' : ℕ) → most ≤ most' → Sound most' body
  sound_more most' more = kept_by (λ _ _. Always) (λ _. Always) most most' 0 0 body more (λ g. (sound.kind g).1) (λ j g. (g, sound))

  pub sound_size : length body / 4 ≡ body_words (points_of body) (coordinators_of body)
  sound_size = (sound.coordinators always).2

  module _ (h : ℕ) (below : h < day_hours) where
    -- an hour's demands together are in range
    pub hour_demand : (n : ℕ) → n ≤ coordinators_of body → total (words_from body (demands_at body h) n) ≤ most_demand
    hour_demand zero p = omega (arith, total_none body (demands_at body h))
    hour_demand (suc n) p =
        rw (← add-one n, total_more body (demands_at body h) n) (sound.demand h n below p always).1

    -- an hour lies within its body
    pub hour_inside : 4 * (hour_at body h + hour_words (points_of body) (coordinators_of body)) ≤ length body
    hour_inside = omega (arith, sound_size, hour_room (points_of body) (coordinators_of body) h below)

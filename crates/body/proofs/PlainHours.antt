-- Hours that are accepted and plain: the walk goes on behind them.
use Prim.Native.Nat.{ℕ, zero, suc, ◌-◌, ◌<◌}
use mathlib.Core.Bool.{true}
use mathlib.Core.List.{List}
use mathlib.Core.Path.{◌≡◌, refl}
use native.Mathlib.Omega.{arith}
use borrow.Author.Count.{below_more}
use Rattle.limits.specs.Ranges.{day_hours}
use Rattle.verdict.specs.First.{scan}
use Rattle.verdict.proofs.First.{both, scan_past}
use Rattle.hour.specs.Plain.{plain_hour}
use Rattle.hour_glance.specs.Told.{AcceptedPlain}
use Rattle.body.specs.Layout.{hour_start}
use Rattle.body.specs.Check.{hour_rule_at, hours_rule}
use Rattle.body.specs.Plain.{plain_hours, Behind}

module _ (body : List ℕ) (kind load count : ℕ) where
  plain-so-far : (n : ℕ) → ((h : ℕ) → h < n → AcceptedPlain body kind load count (hour_start load count h)) → plain_hours body kind load count n ≡ true
  unfolding plain_hours
  plain-so-far zero each = refl
  plain-so-far (suc n) each = rw (plain-so-far n (λ h p. each h (omega arith)), (each n (omega arith)).plain) refl

  module _ (n at : ℕ) (behind : Behind body kind load count n at) where
    pub plain_behind : plain_hours body kind load count n ≡ true
    plain_behind = plain-so-far n behind.each

    pub rule_behind : (start : ℕ) → hours_rule start body load count ≡ scan (hour_rule_at start body load count) n (day_hours - n)
    unfolding hours_rule hour_rule_at
    rule_behind start = scan_past (hour_rule_at start body load count) n day_hours behind.within (λ i p. (behind.each i p).accepted start)

  -- each hour of a plain area is plain
  pub plain_each : (n : ℕ) → plain_hours body kind load count n ≡ true → (h : ℕ) → h < n → plain_hour body kind load count (hour_start load count h) ≡ true
  unfolding plain_hours
  plain_each zero plain h below = absurd (omega arith)
  plain_each (suc n) plain h below =
      let p = both (plain_hours body kind load count n) _ plain in
      below_more (λ h. plain_hour body kind load count (hour_start load count h) ≡ true) n (plain_each n p.0) p.1 h (omega arith)

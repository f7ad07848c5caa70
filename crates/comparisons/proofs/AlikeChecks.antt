-- Two bodies that are alike, as long as each other, with quantities that are both in range or both not: the check says the same of them.
use Prim.Native.Nat.{ℕ, zero, suc, ◌+◌, ◌*◌, ◌<◌}
use mathlib.Core.List.{List}
use mathlib.Core.Path.{◌≡◌, refl, ap₂}
use native.Mathlib.Omega.{arith}
use lib.Dec.{leb}
use lib.ListN.{length}
use Rattle.words.specs.Word.{word_at}
use Rattle.words.proofs.Words.{words_same}
use Rattle.limits.specs.declared.Limits.{Limits}
use Rattle.limits.specs.Ranges.{day_hours, most_quantity}
use Rattle.verdict.specs.First.{◌or_else◌}
use Rattle.body.specs.Layout.{hour_at, points_of, coordinators_of, coordinator_before, intervals_at, quantity_at, demands_at}
use Rattle.hour.specs.Check.{deficiency_rule_at, deficiencies_rule, interval_rule_at, intervals_rule, demand_rule_at, demands_rule, numbers_rule, hour_rule}
use Rattle.body.specs.Check.{coordinator_rule_at, coordinators_rule, hour_rule_at, hours_rule, body_head_of, front_rule, body_rule}
use Rattle.comparisons.proofs.Alike.{Alike, points, coordinators}
use Rattle.verdict.proofs.First.{scan_same}

module _ (start : ℕ) (body body' : List ℕ) (alike : Alike body body') where
  before_same : (i : ℕ) → i < coordinators_of body → coordinator_before body i ≡ coordinator_before body' i
  unfolding coordinator_before
  before_same zero p = refl
  before_same (suc i) p = alike.head (7 + i) (omega arith)

  coordinators-same : coordinators_rule start body (coordinators_of body) ≡ coordinators_rule start body' (coordinators_of body)
  unfolding coordinators_rule coordinator_rule_at
  coordinators-same =
      scan_same _ _ 0 (coordinators_of body) (λ i p. rw (before_same i (omega (arith, p)), alike.head (7 + i) (omega (arith, p))))

  module _ (h : ℕ) where
    numbers-same : numbers_rule start body (hour_at body h) ≡ numbers_rule start body' (hour_at body h)
    unfolding numbers_rule deficiencies_rule deficiency_rule_at
    numbers-same =
        ap₂ ◌or_else◌
        (scan_same _ _ 0 6 (λ i p. rw (alike.number h i (omega (arith, p)))))
        (rw (alike.number h 6 (omega arith), alike.number h 7 (omega arith)))

    demands-same : demands_rule start body (demands_at body h) (coordinators_of body) ≡ demands_rule start body' (demands_at body h) (coordinators_of body)
    unfolding demands_rule demand_rule_at
    demands-same =
        scan_same _ _ 0 (coordinators_of body)
        (λ i p. rw (
          words_same body body' (demands_at body h) (demands_at body h) i (λ j q. alike.demand h j (omega (arith, p, q))),
          alike.demand h i
              (omega (arith, p)),
        ))

  module _ (many : length body ≡ length body')
      (ranged : (h m : ℕ) → h < day_hours → m < 12 * points_of body
      → leb (quantity_at body h m) most_quantity ≡ leb (word_at body' (intervals_at body h + 2 * m)) most_quantity) where
    intervals-same : (h : ℕ) → h < day_hours
        → intervals_rule start body (intervals_at body h) (12 * points_of body) ≡ intervals_rule start body' (intervals_at body h) (12 * points_of body)
    unfolding intervals_rule interval_rule_at
    intervals-same h below =
        scan_same _ _ 0 (12 * points_of body) (λ m p. rw (ranged h m below (omega (arith, p)), alike.price h m (omega (arith, p))))

    hours-same : hours_rule start body (points_of body) (coordinators_of body) ≡ hours_rule start body' (points_of body) (coordinators_of body)
    unfolding hours_rule hour_rule_at hour_rule
    hours-same =
        scan_same _ _ 0 day_hours (λ h p. ap₂ ◌or_else◌ (numbers-same h) (ap₂ ◌or_else◌ (intervals-same h (omega (arith, p))) (demands-same h)))

    front_same : (points ciso : ℕ) → front_rule start body points ciso ≡ front_rule start body' points ciso
    unfolding front_rule body_head_of
    front_same points ciso =
        let word : (j : ℕ) → j < 7 → word_at body j ≡ word_at body' j = λ j p. alike.head j (omega arith) in
        rw (
          many,
          word 0 (omega arith),
          word 1 (omega arith),
          word 2 (omega arith),
          word 3 (omega arith),
          word 4 (omega arith),
          word 5 (omega arith),
          word 6
              (omega arith),
        )

    pub body_rule_same : (limits : Limits) (ciso : ℕ) → body_rule start body limits ciso ≡ body_rule start body' limits ciso
    unfolding body_rule
    body_rule_same limits ciso =
        rw (← points body body' alike, ← coordinators body body' alike, front_same limits.points ciso, coordinators-same, hours-same)

-- The demands of an hour of a sound body are in range.
use Prim.Native.Nat.{ℕ, ◌≤◌, ◌<◌}
use mathlib.Core.Bool.{Bool, true, false, cond}
use mathlib.Core.List.{List}
use mathlib.Core.Path.{◌≡◌}
use native.Mathlib.Nat.{le_refl}
use native.Mathlib.Omega.{arith}
use lib.Dec.{eqb}
use borrow.Author.Tests.{eq-eqb}
use Rattle.limits.specs.Ranges.{day_hours, most_coordinators, proved_points}
use Rattle.body.specs.Layout.{kind_of, coordinators_of, hour_at}
use Rattle.body.specs.Check.{most_of_kind}
use Rattle.body.specs.Kept.{Sound}
use Rattle.body.proofs.Kept.{always, hour_inside, hour_demand}
use Rattle.statement.specs.Ranges.{DemandsRanged}

most_few : (kind : ℕ) → most_of_kind kind ≤ most_coordinators
most_few kind = by (eqb kind 0)
  where
    by : (t : Bool) → cond t 1 most_coordinators ≤ most_coordinators
    by true = omega arith
    by false = omega arith

module _ (body : List ℕ) (sound : Sound proved_points body) where
  pub count_few : coordinators_of body ≤ most_coordinators
  count_few = omega (arith, (sound.coordinators always).1, most_few (kind_of body))

  pub demands_ranged : (h : ℕ) → h < day_hours → DemandsRanged body (hour_at body h)
  demands_ranged h below =
      let k = sound.coordinators always in
      record {
        some = k.0;
        few = count_few;
        room = omega (arith, hour_inside proved_points body sound h below);
        sum = hour_demand proved_points body sound h below (coordinators_of body) (le_refl _);
        alone = λ other.
            let z : kind_of body ≡ 0 = omega (arith, (sound.kind always).0, other) in
            omega (arith, k.0, simp (eq-eqb (kind_of body) 0 z) at k.1);
      }

-- How large U and W of an hour get.
use Prim.Native.Nat.{ℕ, ◌≤◌}
use mathlib.Core.List.{List}
use native.Mathlib.Nat.{add-zero}
use native.Mathlib.Omega.{arith}
use Rattle.words.specs.Word.{word_at}
use Rattle.limits.specs.Ranges.{most_deficiency, most_upward, most_downward}
use Rattle.amounts.specs.Amounts.{upward_from, downward_from}
use Rattle.amounts.specs.Ranges.{HourRanged}

module _ (body : List ℕ) (at : ℕ) (ranged : HourRanged body at) where
  pub first_small : word_at body at ≤ most_deficiency
  first_small = rw add-zero at (ranged.deficiency 0 (omega arith))

  pub upward_small : upward_from body at ≤ most_upward
  unfolding upward_from
  upward_small =
      omega (arith, first_small, ranged.deficiency 1 (omega arith), ranged.deficiency 2 (omega arith), ranged.deficiency 3 (omega arith))

  pub downward_small : downward_from body at ≤ most_downward
  unfolding downward_from
  downward_small = omega (arith, ranged.deficiency 4 (omega arith), ranged.deficiency 5 (omega arith))

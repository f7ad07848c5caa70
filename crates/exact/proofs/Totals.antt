-- The total of demands, and the running demand.
use mathlib.Core.Path.{◌≡◌, sym, ap}
use mathlib.Core.List.{List, [], ◌∷◌, ◌++◌}
use Prim.Native.Nat.{ℕ, ◌+◌, ◌<◌}
use native.Mathlib.Nat.{add_assoc, add-zero}
use native.Mathlib.Numerals.{add-one}
use native.Mathlib.Omega.{arith}
use lib.ListN.{length, get_or, take, drop}
use lib.Seq.{take-suc}
use Rattle.exact.proofs.Filling.{drop_next}
use Rattle.exact.specs.Total.{total}

pub total_append : (xs ys : List ℕ) → total (xs ++ ys) ≡ total xs + total ys
unfolding total
total_append [] ys = omega arith
total_append (x ∷ xs) ys = rw (total_append xs ys) (sym (add_assoc x (total xs) (total ys)))

module _ (demands : List ℕ) (i : ℕ) (h : i < length demands) where
  -- what is left at i: the demand there, and the rest
  pub total_drop : total (drop i demands) ≡ get_or demands i 0 + total (drop (i + 1) demands)
  unfolding total
  total_drop = ap total (drop_next demands i 0 h)

  -- the total of one demand more
  pub total_next : total (take (i + 1) demands) ≡ total (take i demands) + get_or demands i 0
  unfolding total
  total_next = rw (add-one i, take-suc demands i 0 h, total_append (take i demands) (get_or demands i 0 ∷ []), add-zero (get_or demands i 0))

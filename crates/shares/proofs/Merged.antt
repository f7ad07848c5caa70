-- Neighbours merged: a run of neighbouring demands that is merged into one is charged what the run was charged, and no other charge changes.
-- ("100 cents over 1, 1, 1: 33, 34, 33; the first two merged: 67, 33")
use mathlib.Core.Path.{◌≡◌, refl, sym, ap, ap₂, ◌∙◌}
use mathlib.Core.List.{List, [], ◌∷◌, ◌++◌}
use Prim.Native.Nat.{ℕ, zero, suc, ◌+◌, ◌≤◌}
use native.Mathlib.Nat.{add-zero, add_assoc}
use native.Mathlib.Omega.{arith}
use lib.IntN.{ℤ}
use lib.ListN.{length, take, drop, length-append, length-drop, take-append-drop}
use lib.Seq.{drop-drop, length-take-le}
use Rattle.exact.specs.Total.{total}
use Rattle.shares.specs.Shares.{shares_from, shares, sum, merged_at}
use Rattle.exact.proofs.Totals.{total_append}
use Rattle.shares.proofs.AddsUp.{sum_from}

-- n neighbours merged are one
pub merged_length : {X : Type 0} (add : List X → X) (i n : ℕ) (xs : List X) → i + n ≤ length xs → length (merged_at add i n xs) + n ≡ length xs + 1
merged_length add i n xs inside = rw (length-append (take i xs), length-take-le i xs (omega arith), length-drop (i + n) xs) (omega arith)

module _ (amount : ℤ) (t : ℕ) where
  from-append : (c : ℕ) (xs ys : List ℕ) → shares_from amount t c (xs ++ ys) ≡ shares_from amount t c xs ++ shares_from amount t (c + total xs) ys
  unfolding shares_from total
  from-append c [] ys = rw (add-zero c)
  from-append c (x ∷ xs) ys = rw (from-append (c + x) xs ys, add_assoc c x (total xs))

  from-take : (c n : ℕ) (ds : List ℕ) → take n (shares_from amount t c ds) ≡ shares_from amount t c (take n ds)
  unfolding shares_from
  from-take c zero ds = refl
  from-take c (suc n) [] = refl
  from-take c (suc n) (d ∷ ds) = rw (from-take (c + d) n ds)

  from-drop : (c n : ℕ) (ds : List ℕ) → drop n (shares_from amount t c ds) ≡ shares_from amount t (c + total (take n ds)) (drop n ds)
  unfolding shares_from total
  from-drop c zero ds = rw (add-zero c)
  from-drop c (suc n) [] = refl
  from-drop c (suc n) (d ∷ ds) = rw (from-drop (c + d) n ds, add_assoc c d (total (take n ds)))

  from-merged : (c i n : ℕ) (ds : List ℕ) → shares_from amount t c (merged_at total i n ds) ≡ merged_at sum i n (shares_from amount t c ds)
  unfolding shares_from
  from-merged c i n ds =
      let run = take n (drop i ds) in
      let c' = c + total (take i ds) in
      rw (← drop-drop n i ds, ← drop-drop n i (shares_from amount t c ds))
      (from-append c (take i ds) (total run ∷ drop n (drop i ds))
      ∙ ap₂ ◌++◌ (sym (from-take c i ds))
      (ap₂ ◌∷◌
      (sym (sum_from amount t c' run) ∙ ap sum (sym (from-take c' n (drop i ds)) ∙ ap (take n) (sym (from-drop c i ds))))
      (sym (from-drop c' n (drop i ds)) ∙ ap (drop n) (sym (from-drop c i ds)))))

pub total_merged : (i n : ℕ) (ds : List ℕ) → total (merged_at total i n ds) ≡ total ds
unfolding total
total_merged i n ds =
    let rest = drop i ds in
    rw (← drop-drop n i ds)
    (total_append (take i ds) (total (take n rest) ∷ drop n rest)
    ∙ ap (λ x. total (take i ds) + x) (sym (total_append (take n rest) (drop n rest)) ∙ ap total (take-append-drop n rest))
    ∙ sym (total_append (take i ds) rest)
    ∙ ap total (take-append-drop i ds))

pub merged : (amount : ℤ) (i n : ℕ) (demands : List ℕ) → shares amount (merged_at total i n demands) ≡ merged_at sum i n (shares amount demands)
unfolding shares
merged amount i n demands = rw (total_merged i n demands) (from-merged amount (total demands) 0 i n demands)

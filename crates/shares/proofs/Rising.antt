-- Numbers that rise, as those of coordinators do, rise with neighbours merged under a number that keeps the order.
use Prim.Native.Nat.{ℕ, zero, suc, ◌+◌, ◌≤◌, ◌<◌}
use mathlib.Core.List.{List, [], ◌∷◌}
use mathlib.Core.Path.{◌≡◌}
use native.Mathlib.Omega.{arith}
use lib.ListN.{length, get_or, drop}
use Rattle.limits.specs.Ranges.{largest_number}
use Rattle.shares.specs.Shares.{merged_at}

-- number i is above the one before it, the first above `before`, and not above the largest
abbrev RisesFrom : ℕ → List ℕ → ℕ → Type 0
RisesFrom before cs i = (get_or (before ∷ cs) i 0 < get_or cs i 0) × (get_or cs i 0 ≤ largest_number)

abbrev pub RisesAt : List ℕ → ℕ → Type 0
RisesAt cs i = RisesFrom 0 cs i

-- each number does
abbrev Rising : ℕ → List ℕ → Type 0
Rising before [] = Unit {0}
Rising before (c ∷ cs) = (before < c) × ((c ≤ largest_number) × Rising c cs)

rises : (before : ℕ) (cs : List ℕ) → ((i : ℕ) → i < length cs → RisesFrom before cs i) → Rising before cs
rises before [] each = tt
rises before (c ∷ cs) each = let here = each 0 (omega arith) in (here.0, (here.1, rises c cs (λ i p. each (suc i) (omega arith))))

rises_at : (before : ℕ) (cs : List ℕ) → Rising before cs → (i : ℕ) → i < length cs → RisesFrom before cs i
rises_at before [] r i p = absurd (omega arith)
rises_at before (c ∷ cs) r zero p = (r.0, r.1.0)
rises_at before (c ∷ cs) r (suc i) p = rises_at c cs r.1.1 i (omega arith)

module _ (n number : ℕ) (small : number ≤ largest_number) where
  rises-behind : (k before : ℕ) (cs : List ℕ) → Rising before cs → (k < length cs → number < get_or cs k 0) → Rising number (drop k cs)
  rises-behind zero before [] r under = tt
  rises-behind zero before (c ∷ cs) r under = (under (omega arith), r.1)
  rises-behind (suc k) before [] r under = tt
  rises-behind (suc k) before (c ∷ cs) r under = rises-behind k c cs r.1.1 (λ p. under (omega arith))

  rises-merged : (i before : ℕ) (cs : List ℕ) → Rising before cs → i ≤ length cs → get_or (before ∷ cs) i 0 < number
      → (i + n < length cs → number < get_or cs (i + n) 0) → Rising before (merged_at (λ _. number) i n cs)
  rises-merged zero before cs r inside above under = (above, (small, rises-behind (0 + n) before cs r under))
  rises-merged (suc i) before [] r inside above under = absurd (omega arith)
  rises-merged (suc i) before (c ∷ cs) r inside above under =
      let next : suc i + n ≡ suc (i + n) = omega arith in
      rw next (r.0, (r.1.0, rises-merged i c cs r.1.1 (omega arith) above (λ p. rw next at (under (omega arith)))))

  pub merged_rises : (i : ℕ) (cs : List ℕ) → ((j : ℕ) → j < length cs → RisesAt cs j) → i ≤ length cs → get_or (0 ∷ cs) i 0 < number
      → (i + n < length cs → number < get_or cs (i + n) 0) → (j : ℕ) → j < length (merged_at (λ _. number) i n cs) → RisesAt (merged_at (λ _. number) i n cs) j
  merged_rises i cs each inside above under = rises_at 0 (merged_at (λ _. number) i n cs) (rises-merged i 0 cs (rises 0 cs each) inside above under)

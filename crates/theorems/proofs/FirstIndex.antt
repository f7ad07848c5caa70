-- A scan that refuses answers what the first index answers whose part refuses; and such an index, where there is one, decides the scan.
use Prim.Native.Nat.{ℕ, zero, suc, ◌+◌, ◌≤◌, ◌<◌}
use mathlib.Core.Logic.{⊎_elim, dite}
use mathlib.Core.Path.{◌≡◌, refl, ap, ◌∙◌}
use native.Mathlib.Decide.{ℕ_discrete}
use native.Mathlib.Nat.{eq-or-lt_of_le}
use native.Mathlib.Omega.{arith}
use Rattle.verdict.specs.Verdict.{number_of, Verdict}
use Rattle.verdict.specs.First.{scan}
use Rattle.verdict.proofs.First.{or_stop, or_next}
use Rattle.theorems.specs.Refused.{Refuses}

-- of the parts k, k + 1, .., n of them, part i is the first that refuses
pub record First (part : ℕ → Verdict) (k n i : ℕ) : Type 0 where
  pub from : k ≤ i
  pub below : i < k + n
  pub refuses : Refuses (part i)
  pub before : (j : ℕ) → k ≤ j → j < i → number_of (part j) ≡ 0

-- a first index decides
pub first_decides : (part : ℕ → Verdict) (k n i : ℕ) → First part k n i → scan part k n ≡ part i
unfolding scan
first_decides part k zero i f = absurd (omega (arith, f.from, f.below))
first_decides part k (suc n) i f =
    ⊎_elim
    (λ (e : k ≡ i). or_stop (part k) _ (rw e f.refuses) ∙ ap part e)
    (λ (l : k < i).
    or_next (part k) _ (f.before k (omega arith) l)
    ∙ first_decides part (suc k) n i
    (record { from = l; below = omega (arith, f.below); refuses = f.refuses; before = λ j p q. f.before j (omega arith) q }))
    (eq-or-lt_of_le f.from)

-- it is the first with a part more in front that accepts
one_more : (part : ℕ → Verdict) (k n i : ℕ) → number_of (part k) ≡ 0 → First part (suc k) n i → First part k (suc n) i
one_more part k n i z f =
    record {
      from = omega (arith, f.from);
      below = omega (arith, f.below);
      refuses = f.refuses;
      before = λ j p q. ⊎_elim (λ (e : k ≡ j). rw (← e) z) (λ (l : k < j). f.before j l q) (eq-or-lt_of_le p);
    }

-- and a scan that refuses has one
pub first_of : (part : ℕ → Verdict) (k n : ℕ) → Refuses (scan part k n) → (i : ℕ) × First part k n i
unfolding scan
first_of part k zero r = absurd (r refl)
first_of part k (suc n) r =
    dite (ℕ_discrete (number_of (part k)) 0)
    (λ z.
    let later = first_of part (suc k) n (λ q. r (ap number_of (or_next (part k) _ z) ∙ q)) in
    (later.0, one_more part k n later.0 z later.1))
    (λ refuses.
    (k, record { from = omega arith; below = omega arith; refuses = refuses; before = λ j p q. absurd (omega arith) }))

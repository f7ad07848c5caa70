-- The payments of the areas that pass are the shares of what was collected by the basis of these areas alone: who does not pass has no part in the running
-- totals.
use Prim.Native.Nat.{ℕ, zero, suc, ◌+◌, ◌<◌}
use mathlib.Core.Bool.{Bool, true, false, cond}
use mathlib.Core.List.{List, ◌∷◌}
use mathlib.Core.Path.{◌≡◌, refl, sym, ap, ◌∙◌}
use native.Mathlib.Nat.{add-zero, zero-add}
use lib.IntN.{ℤ, ◌-ℤ◌}
use lib.ListN.{length}
use Rattle.exact.specs.Total.{total}
use Rattle.limits.specs.Ranges.{day_hours}
use Rattle.verdict.specs.Verdict.{number_of}
use Rattle.contents.specs.File.{areas_of, body_at}
use Rattle.shares.specs.Shares.{up_to, shares_from, shares}
use Rattle.collecting.specs.Directions.{Direction, passes}
use Rattle.paying.specs.Columns.{each}
use Rattle.payout_rules.specs.PayOut.{basis_number, basis_at, collected_at, passing_basis, pay_out_rule}
use Rattle.payout_theorems.specs.PaidOut.{payments_left, payments_shown, passing_only}
use Rattle.payout_theorems.proofs.Shown.{shown_shares}

-- a basis for each area, and that which counts
module _ (pass : ℕ → Bool) (basis : ℕ → ℕ) where
  counted : ℕ → ℕ
  counted k = cond (pass k) (basis k) 0

  -- those that pass among n areas from area k on
  abbrev among : ℕ → ℕ → List ℕ
  among k n = passing_only pass k (each basis k n)

  total-by : (t : Bool) (b : ℕ) (rest : List ℕ) (m : ℕ) → total rest ≡ m → total (cond t (b ∷ rest) rest) ≡ cond t b 0 + m
  unfolding total
  total-by true b rest m e = ap (λ t. b + t) e
  total-by false b rest m e = e ∙ sym (zero-add m)

  same_total : (k n : ℕ) → total (among k n) ≡ total (each counted k n)
  unfolding total each passing_only counted
  same_total k zero = refl
  same_total k (suc n) = total-by (pass k) (basis k) (among (suc k) n) _ (same_total (suc k) n)

  module _ (amount : ℤ) (t : ℕ) where
    shares-by : (p : Bool) (c b : ℕ) (rest : List ℕ) (shared : ℕ → List ℤ) → ((c : ℕ) → shares_from amount t c rest ≡ shared c)
        → shares_from amount t c (cond p (b ∷ rest) rest)
        ≡ cond p ((up_to amount t (c + cond p b 0) -ℤ up_to amount t c) ∷ shared (c + cond p b 0)) (shared (c + cond p b 0))
    unfolding shares_from
    shares-by true c b rest shared e = ap (λ l. (up_to amount t (c + b) -ℤ up_to amount t c) ∷ l) (e (c + b))
    shares-by false c b rest shared e = rw (add-zero c) (e c)

    same-shares : (c k n : ℕ) → shares_from amount t c (among k n) ≡ passing_only pass k (shares_from amount t c (each counted k n))
    unfolding each passing_only shares_from counted
    same-shares c k zero = refl
    same-shares c k (suc n) =
        shares-by (pass k) c (basis k) (among (suc k) n) (λ d. passing_only pass (suc k) (shares_from amount t d (each counted (suc k) n)))
        (λ d. same-shares d (suc k) n)

module _ (file basis : List ℕ) (lent : List ℤ) (z : number_of (pay_out_rule file basis (length lent)) ≡ 0) (h : ℕ) (direction : Direction)
    (below : h < day_hours) where
  abbrev pass : ℕ → Bool
  pass k = passes (body_at file k) h direction

  abbrev own : ℕ → ℕ
  own k = basis_number basis k h

  counted_is : passing_basis file basis h direction ≡ each (counted pass own) 0 (areas_of file)
  unfolding passing_basis counted
  counted_is = refl

  pub passing_only_lem : shares (collected_at file h direction) (passing_only pass 0 (basis_at basis (areas_of file) h))
      ≡ passing_only pass 0 (payments_shown file (payments_left file basis lent) h direction)
  unfolding shares
  passing_only_lem =
      let n = areas_of file in
      let collected = collected_at file h direction in
      rw (same_total pass own 0 n, shown_shares file basis lent z h direction below, counted_is)
      (same-shares pass own collected (total (each (counted pass own) 0 n)) 0 0 n)

-- What the payments that the call leaves show is what the definitions say.
use Prim.Native.Nat.{ℕ, ◌+◌, ◌*◌, ◌<◌}
use mathlib.Core.List.{List, ◌++◌}
use mathlib.Core.Path.{◌≡◌, sym, ap, ◌∙◌}
use native.Mathlib.Omega.{arith}
use lib.IntN.{ℤ, pos}
use lib.ListN.{length, get_or, take, drop, get_or-append}
use lib.Seq.{ext_get_or, take_at}
use Rattle.limits.specs.Ranges.{day_hours, day_payments}
use Rattle.verdict.specs.Verdict.{number_of}
use Rattle.contents.specs.File.{areas_of}
use Rattle.shares.specs.Shares.{shares}
use Rattle.shares.proofs.Length.{shares_length}
use Rattle.collecting.specs.Directions.{Direction, column_at}
use Rattle.paying.specs.Columns.{each}
use Rattle.paying.proofs.Columns.{each_length, each_there, each_same}
use Rattle.payout_rules.specs.PayOut.{collected_at, basis_of, passing_basis, payment_at, rest_at, payments_needed, payments_of, pay_out_rule}
use Rattle.payout_rules.proofs.Areas.{column_below}
use Rattle.payout_rules.proofs.Rule.{paid_out_then}
use Rattle.payout_rules.proofs.Paid.{payments_length, payment_there, rest_there}
use Rattle.payout_theorems.specs.PaidOut.{payments_left, payment_shown, payments_shown, rest_shown}

-- the payments of an hour and direction are the shares of what was collected
pub own_shares : (file basis : List ℕ) (h : ℕ) (direction : Direction)
    → each (λ k. payment_at file basis k h direction) 0 (areas_of file) ≡ shares (collected_at file h direction) (passing_basis file basis h direction)
unfolding payment_at passing_basis
own_shares file basis h direction =
    let n = areas_of file in
    let own = shares (collected_at file h direction) (passing_basis file basis h direction) in
    let numbers : ℕ → ℤ = λ k. payment_at file basis k h direction in
    let long = each_length numbers 0 n in
    let count = each_length (λ k. basis_of file basis k h direction) 0 n in
    ext_get_or (pos 0) (each numbers 0 n) own
    (long ∙ sym (shares_length (collected_at file h direction) (passing_basis file basis h direction) ∙ count))
    (λ k p. each_there numbers n k (pos 0) (omega arith))

module _ (file basis : List ℕ) (payments : List ℤ) (z : number_of (pay_out_rule file basis (length payments)) ≡ 0) where
  abbrev left : List ℤ
  left = payments_left file basis payments

  pub left_is : left ≡ payments_of file basis ++ drop (payments_needed file) payments
  left_is = paid_out_then file basis (pay_out_rule file basis (length payments)) payments z

  pub front_is : take (payments_needed file) left ≡ payments_of file basis
  front_is = ap (take (payments_needed file)) left_is ∙ take_at (payments_of file basis) _ (payments_needed file) (payments_length file basis)

  -- a number of the first n + 1 rows
  in-front : (p : ℕ) → p < payments_needed file → get_or left p (pos 0) ≡ get_or (payments_of file basis) p (pos 0)
  in-front p inside =
      ap (λ (l : List ℤ). get_or l p (pos 0)) left_is
      ∙ get_or-append (payments_of file basis) (drop (payments_needed file) payments) (pos 0) p (omega (arith, payments_length file basis))

  module _ (h : ℕ) (direction : Direction) (below : h < day_hours) where
    pub payment_shown_lem : (k : ℕ) → k < areas_of file → payment_shown file left h direction k ≡ payment_at file basis k h direction
    payment_shown_lem k area =
        in-front (day_payments * k + column_at h direction) (omega (arith, column_below h direction below)) ∙ payment_there file basis h direction below k area

    pub rest_shown_lem : rest_shown file left h direction ≡ rest_at file basis h direction
    rest_shown_lem =
        in-front (day_payments * areas_of file + column_at h direction) (omega (arith, column_below h direction below)) ∙ rest_there file basis h direction below

    pub shown_shares : payments_shown file left h direction ≡ shares (collected_at file h direction) (passing_basis file basis h direction)
    shown_shares =
        each_same (payment_shown file left h direction) (λ k. payment_at file basis k h direction) 0 (areas_of file) (λ k p. payment_shown_lem k (omega arith))
        ∙ own_shares file basis h direction

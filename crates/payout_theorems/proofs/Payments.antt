-- Each payment is less than a cent from its exact share and has the sign of what was collected, who does not pass gets 0, and the rest is 0 or all of it. The
-- payments are shares as charges are: what holds of shares with the sign turned or with neighbours merged holds of them.
use Prim.Native.Nat.{ℕ, zero, suc, ◌+◌, ◌<◌}
use mathlib.Core.Bool.{false}
use mathlib.Core.List.{List, map}
use mathlib.Core.Path.{◌≡◌, refl, sym, ap, ◌∙◌}
use native.Mathlib.Omega.{arith}
use borrow.Author.Tests.{eq-eqb, ne_eqb}
use lib.IntN.{ℤ, pos, neg_ℤ}
use lib.ListN.{length, get_or}
use Rattle.exact.specs.Total.{total}
use Rattle.limits.specs.Ranges.{day_hours}
use Rattle.verdict.specs.Verdict.{number_of}
use Rattle.contents.specs.File.{areas_of, body_at}
use Rattle.shares.specs.Shares.{shares, sum, merged_at}
use Rattle.shares.proofs.WithinACent.{within_a_cent}
use Rattle.shares.proofs.NoDemand.{no_demand}
use Rattle.shares.proofs.Sign.{same_sign}
use Rattle.shares.proofs.Turned as T
use Rattle.shares.proofs.Merged as M
use Rattle.collecting.specs.Directions.{Direction, passes}
use Rattle.paying.specs.Paid.{rest_of}
use Rattle.paying.specs.Columns.{each}
use Rattle.paying.proofs.Columns.{each_length, each_there}
use Rattle.payout_rules.specs.PayOut.{collected_at, basis_of, passing_basis, payment_at, rest_at, pay_out_rule}
use Rattle.payout_theorems.specs.PaidOut.{payments_left, payment_shown, Payments, Shared}
use Rattle.payout_theorems.proofs.Shown.{payment_shown_lem, rest_shown_lem, shown_shares}
use Rattle.payout_theorems.proofs.PassingOnly.{passing_only_lem}

total_none : (number : ℕ → ℕ) (k n : ℕ) → ((i : ℕ) → i < k + n → number i ≡ 0) → total (each number k n) ≡ 0
unfolding total each
total_none number k zero none = refl
total_none number k (suc n) none = omega (arith, none k (omega arith), total_none number (suc k) n (λ i p. none i (omega arith)))

module _ (file basis : List ℕ) (h : ℕ) (direction : Direction) where
  abbrev collected : ℤ
  collected = collected_at file h direction

  abbrev passing : List ℕ
  passing = passing_basis file basis h direction

  basis-there : (k : ℕ) → k < areas_of file → get_or passing k 0 ≡ basis_of file basis k h direction
  unfolding passing_basis
  basis-there k area = each_there (λ i. basis_of file basis i h direction) (areas_of file) k 0 area

  passing-length : length passing ≡ areas_of file
  unfolding passing_basis
  passing-length = each_length (λ i. basis_of file basis i h direction) 0 (areas_of file)

  no-basis-of : (k : ℕ) → passes (body_at file k) h direction ≡ false → basis_of file basis k h direction ≡ 0
  no-basis-of k e = rw e

  all_left : total passing ≡ 0 → rest_at file basis h direction ≡ collected
  unfolding rest_at rest_of
  all_left none = rw (eq-eqb (total passing) 0 none)

  nothing_left : 0 < total passing → rest_at file basis h direction ≡ pos 0
  unfolding rest_at rest_of
  nothing_left some = rw (ne_eqb (total passing) 0 (λ e. omega arith))

  nobody-passes : ((k : ℕ) → k < areas_of file → passes (body_at file k) h direction ≡ false) → total passing ≡ 0
  unfolding passing_basis
  nobody-passes none =
      total_none (λ k. basis_of file basis k h direction) 0 (areas_of file) (λ k p. no-basis-of k (none k (omega arith)))

module _ (file basis : List ℕ) (lent : List ℤ) (z : number_of (pay_out_rule file basis (length lent)) ≡ 0) (h : ℕ) (direction : Direction)
    (below : h < day_hours) where
  -- a payment is the share of its area
  is : (k : ℕ) → k < areas_of file
      → payment_shown file (payments_left file basis lent) h direction k ≡ get_or (shares (collected_at file h direction) (passing_basis file basis h direction)) k (pos 0)
  unfolding payment_at
  is k area = payment_shown_lem file basis lent z h direction below k area

  pub payments : Payments file basis (payments_left file basis lent) h direction
  payments =
      let rest = rest_shown_lem file basis lent z h direction below in
      record {
        within_a_cent = λ k area some.
            rw (is k area, ← basis-there file basis h direction k area)
            (within_a_cent (collected_at file h direction) (passing_basis file basis h direction) k some (rw (passing-length file basis h direction) area));
        not_passing = λ k area e.
            is k area
            ∙ no_demand (collected_at file h direction) (passing_basis file basis h direction) k
            (basis-there file basis h direction k area ∙ no-basis-of file basis h direction k e);
        sign = λ k area. rw (is k area) (same_sign (collected_at file h direction) (passing_basis file basis h direction) k);
        nobody = λ none. rest ∙ all_left file basis h direction (nobody-passes file basis h direction none);
        no_basis = λ none. rest ∙ all_left file basis h direction none;
        some_basis = λ some. rest ∙ nothing_left file basis h direction some;
      }

  pub shared : Shared file basis (payments_left file basis lent) h direction
  shared =
      let shown = shown_shares file basis lent z h direction below in
      record {
        shared = shown;
        among_passing = passing_only_lem file basis lent z h direction below;
        turned = T.turned (collected_at file h direction) (passing_basis file basis h direction) ∙ ap (map neg_ℤ) (sym shown);
        merged = λ i n. M.merged (collected_at file h direction) i n (passing_basis file basis h direction) ∙ ap (merged_at sum i n) (sym shown);
      }

-- What is known of rows that are accepted.
use mathlib.Core.Path.{◌≡◌}
use mathlib.Core.Logic.{◌⊎◌}
use mathlib.Core.Bool.{◌||◌}
use mathlib.Core.List.{List}
use Prim.Native.Nat.{ℕ, zero, suc, ◌≤◌, ◌<◌, zero-le}
use native.Mathlib.Nat.{le_refl}
use native.Mathlib.Numerals.{add-one}
use native.Mathlib.Omega.{arith}
use lib.Dec.{eqb, leb, ltb}
use lib.IntN.{ℤ, pos, nat_abs}
use lib.ListN.{length, get_or, take}
use lib.Seq.{take-length}
use borrow.Author.Tests.{leb-true}
use Rattle.verdict.specs.Verdict.{number_of}
use Rattle.verdict.proofs.First.{kept, or_first, or_second, scan_each}
use Rattle.exact.specs.Total.{total}
use Rattle.exact.proofs.Totals.{total_next}
use Rattle.limits.specs.Ranges.{most_demand, most_amount}
use Rattle.hour.specs.Kept.{DemandKept}
use Rattle.hour.proofs.Rules.{demand_kept}
use Rattle.shares.proofs.SomeDemand.{shareable_when}
use Rattle.columns.specs.Columns.{row_rule_at, rows_rule, columns_rule}

pub rows_total : (coordinators demands : List ℕ) → number_of (rows_rule coordinators demands) ≡ 0 → total demands ≤ most_demand
unfolding rows_rule row_rule_at total
rows_total coordinators demands z = rw take-length at (up-to-row (length demands) (le_refl _))
  where
    up-to-row : (n : ℕ) → n ≤ length demands → total (take n demands) ≤ most_demand
    up-to-row zero h = zero-le
    up-to-row (suc i) h =
        let each = scan_each (row_rule_at coordinators demands) (length demands) z i h in
        let k : DemandKept (total (take i demands)) (get_or demands i 0) = demand_kept _ _ _ (or_second _ _ each) in
        rw (← add-one i) (omega (arith, total_next demands i h))

pub record Accepted (amount : ℤ) (demands : List ℕ) (room : ℕ) : Type 0 where
  pub amount_within : nat_abs amount ≤ most_amount
  pub total_within : total demands ≤ most_demand
  pub room_enough : length demands ≤ room
  pub demand_some : (amount ≡ pos 0) ⊎ (0 < total demands)

pub columns_accepted : (amount : ℤ) (coordinators demands : List ℕ) (room : ℕ) → number_of (columns_rule amount coordinators demands room) ≡ 0
    → Accepted amount demands room
unfolding columns_rule
columns_accepted amount coordinators demands room z =
    let a = kept (leb (nat_abs amount) most_amount) _ _ z in
    let b = or_second (rows_rule coordinators demands) _ a.1 in
    let d = kept (leb (length demands) room) _ _ b in
    let e = kept (eqb (nat_abs amount) 0 || ltb 0 (total demands)) _ _ d.1 in
    record {
      amount_within = leb-true _ _ a.0;
      total_within = rows_total coordinators demands (or_first _ _ a.1);
      room_enough = leb-true _ _ d.0;
      demand_some = shareable_when amount (total demands) e.0;
    }

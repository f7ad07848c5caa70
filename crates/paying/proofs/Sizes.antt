-- What is collected in an hour and direction, times the basis that it is paid out over, fits 64 bits: 32 areas of 7,200,000,000 cents and 10,000,000.
use Prim.Native.Nat.{ℕ, zero, suc, ◌+◌, ◌*◌, ◌≤◌, ◌<◌, ◌^◌}
use mathlib.Core.List.{List}
use native.Mathlib.Nat.{mul-le-mul, mul-suc}
use native.Mathlib.Omega.{arith}
use lib.IntN.{ℤ, pos, nat_abs}
use lib.ListN.{get_or}
use Rattle.exact.proofs.Magnitude.{abs_add}
use Rattle.limits.specs.Ranges.{day_payments, most_basis, proved_areas}
use Rattle.shares.specs.Shares.{sum}
use Rattle.paying.specs.Columns.{each, column, paid_to}
use Rattle.paying.specs.Ranges.{most_collected, ColumnKept, TableKept}
use Rattle.paying.proofs.Columns.{paid_to_length, not_paid}

sum_small : (m : ℕ) (number : ℕ → ℤ) (k n : ℕ) → ((i : ℕ) → i < k + n → nat_abs (number i) ≤ m) → nat_abs (sum (each number k n)) ≤ m * n
unfolding sum each
sum_small m number k zero small = omega arith
sum_small m number k (suc n) small =
    omega (arith, abs_add (number k) (sum (each number (suc k) n)), small k (omega arith), sum_small m number (suc k) n (λ i p. small i (omega arith)), mul-suc m n)

pub collected_small : (table : List ℤ) (n j : ℕ) → ColumnKept table n j → nat_abs (sum (column (pos 0) table n j)) ≤ most_collected * proved_areas
collected_small table n j kept =
    omega (arith, sum_small most_collected (λ k. get_or table (day_payments * k + j) (pos 0)) 0 n (λ k p. kept.each k (omega arith)), kept.few)

pub payment_fits : (collected : ℤ) (t : ℕ) → nat_abs collected ≤ most_collected * proved_areas → t ≤ most_basis → nat_abs collected * t < 2 ^ 63
payment_fits collected t h k = omega (arith, mul-le-mul h k)

-- a table keeps its bounds in the columns that are not paid out yet
pub still_kept : (bases : List ℕ) (n j : ℕ) (table : List ℤ) → j < day_payments → TableKept bases n j table → TableKept bases n j (paid_to bases n j table)
still_kept bases n j table below kept =
    let long = paid_to_length bases n table j in
    record {
      areas = kept.areas;
      collected = record {
        few = kept.collected.few;
        below = below;
        room = omega (arith, long, kept.collected.room);
        each = λ k p.
            rw (not_paid bases n table j (day_payments * k + j) (pos 0) (λ m i under less e. omega arith)) (kept.collected.each k p);
      };
      rests = omega (arith, long, kept.rests);
      counted = kept.counted;
      basis = kept.basis;
    }

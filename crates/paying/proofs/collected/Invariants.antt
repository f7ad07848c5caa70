use Rattle.std.proofs.Common.{◌≡◌, ◌+◌, ◌*◌, ◌-◌, ◌≤◌, get_or}
use lib.IntN.{pos, nat_abs, ◌+ℤ◌}
use Rattle.limits.specs.Ranges.{day_payments}
use Rattle.shares.specs.Shares.{sum}
use Rattle.paying.specs.Columns.{each, column}
use Rattle.paying.specs.Ranges.{most_collected}
use Rattle.paying.proofs.collected.Given as goal

abbrev pub invariant-loop-k : goal.invariant-loop-k
invariant-loop-k l =
    record {
      small : nat_abs l.sum ≤ most_collected * l.k;
      left : l.sum +ℤ sum (each (λ k. get_or l.payments (day_payments * k + l.j) (pos 0)) l.k (l.n - l.k)) ≡ sum (column (pos 0) l.payments l.n l.j);
    }

use Rattle.std.proofs.Common.{◌≡◌}
use lib.IntN.{pos}
use Rattle.paying.specs.Columns.{Zeros}
use Rattle.paying.proofs.nothing_collected.Given as goal

abbrev pub invariant-loop-payment : goal.invariant-loop-payment
invariant-loop-payment l =
    record {
      only_if_zeros : l.joined ≡ pos 0 → Zeros l.payment-index l.payment-items;
      if_zeros : Zeros l.payment-index l.payment-items → l.joined ≡ pos 0;
    }

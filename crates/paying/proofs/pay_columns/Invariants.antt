use Rattle.std.proofs.Common.{◌≡◌}
use Rattle.paying.specs.Columns.{paid_to}
use Rattle.paying.proofs.pay_columns.Given as goal

abbrev pub invariant-loop-j : goal.invariant-loop-j
invariant-loop-j l = l.payments ≡ paid_to l.bases l.n l.j l.initial.payments

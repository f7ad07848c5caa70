use Rattle.std.proofs.Common.{◌≡◌, ◌+◌, ◌*◌, drop}
use Rattle.limits.specs.Ranges.{day_payments}
use Rattle.paying.specs.Columns.{put_column}
use Rattle.paying.proofs.put_column.Given as goal

abbrev pub invariant-loop-k : goal.invariant-loop-k
invariant-loop-k l = put_column (day_payments * l.k + l.j) (drop l.k l.numbers) l.payments ≡ put_column l.j l.numbers l.initial.payments

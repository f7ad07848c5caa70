use Rattle.std.proofs.Common.{◌+◌, ◌*◌, ◌-◌, get_or}
use Rattle.exact.proofs.Filling.{Filling}
use Rattle.limits.specs.Ranges.{day_payments}
use Rattle.paying.specs.Columns.{each, column}
use Rattle.paying.proofs.basis_column.Given as goal

abbrev pub invariant-loop-k : goal.invariant-loop-k
invariant-loop-k l =
    Filling (column 0 l.bases l.n l.j) l.initial.basis l.basis (each (λ k. get_or l.bases (day_payments * k + l.j) 0) l.k (l.n - l.k)) l.k

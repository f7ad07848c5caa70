use Rattle.std.proofs.Common.{◌≡◌, ◌*◌, ◌++◌, drop}
use Rattle.limits.specs.Ranges.{day_payments}
use Rattle.payout_rules.specs.PayOut.{areas_to, basis_of}
use Rattle.payout.proofs.count_bases.Given as goal

abbrev pub invariant-loop-k : goal.invariant-loop-k
invariant-loop-k l = l.counted ≡ areas_to (basis_of l.file l.basis) l.k ++ drop (day_payments * l.k) l.initial.counted

use Rattle.std.proofs.Common.{◌≡◌, ◌-◌}
use Rattle.locating.specs.Locating.{holder_from}
use Rattle.locating.proofs.holder.Given as goal

abbrev pub invariant-loop-k : goal.invariant-loop-k
invariant-loop-k l = holder_from l.file l.at 0 l.n ≡ holder_from l.file l.at l.k (l.n - l.k)

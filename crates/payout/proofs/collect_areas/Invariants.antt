use Rattle.std.proofs.Common.{◌≡◌, ◌*◌, ◌++◌, drop}
use Rattle.limits.specs.Ranges.{day_payments}
use Rattle.payout_rules.specs.PayOut.{areas_to, collected_from}
use Rattle.payout.proofs.collect_areas.Given as goal

abbrev pub invariant-loop-k : goal.invariant-loop-k
invariant-loop-k l = l.collected ≡ areas_to (collected_from l.file) l.k ++ drop (day_payments * l.k) l.initial.collected

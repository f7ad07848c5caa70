use Rattle.std.proofs.Common.{ℕ}
use Rattle.verdict.specs.First.{scan}
use Rattle.hour.specs.Gathered.{Gathered}
use Rattle.hour.specs.Check.{deficiency_rule_at}
use Rattle.hour.proofs.deficiencies_gathered.Given as goal

abbrev pub invariant-loop-i : goal.invariant-loop-i
invariant-loop-i l = (start : ℕ) → Gathered (scan (deficiency_rule_at start l.body l.at) 0 l.i) l.gathered

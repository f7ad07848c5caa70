use Rattle.std.proofs.Common.{◌≡◌, ◌-◌}
use Rattle.verdict.specs.First.{scan}
use Rattle.settlement.specs.Settlement.{listed, area_refusal, areas_refusal}
use Rattle.settlement.proofs.check_areas.Given as goal

abbrev pub invariant-loop-k : goal.invariant-loop-k
invariant-loop-k l = areas_refusal (listed l.days l.file) l.file ≡ scan (area_refusal (listed l.days l.file) l.file) l.k (l.n - l.k)

use Rattle.std.proofs.Common.{◌≡◌, ◌-◌, ◌≤◌, length}
use Rattle.limits.specs.Ranges.{proved_areas}
use Rattle.verdict.specs.First.{scan}
use Rattle.dayfile.specs.Ciso.{ciso_before}
use Rattle.dayfile.specs.Check.{body_rule_at, bodies_rule}
use Rattle.dayfile.specs.Plain.{PlainTold}
use Rattle.dayfile.proofs.bodies.Given as goal

abbrev pub invariant-loop-area : goal.invariant-loop-area
invariant-loop-area l = record {
  counted : l.ciso ≡ ciso_before l.file l.area;
  one : l.ciso ≤ 1;
  rest : bodies_rule l.limits l.file l.n ≡ scan (body_rule_at l.limits l.file) l.area (l.n - l.area);
  room : length l.plain ≡ proved_areas;
  told : PlainTold l.plain l.file l.area;
}

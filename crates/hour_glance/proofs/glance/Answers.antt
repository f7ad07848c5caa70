use Rattle.std.proofs.Common.{◌≤◌, sym, ◌∙◌, true≢false, arith, ltb-true, eqb-true, leb-true}
use borrow.Author.Tests.{not-true}
use Rattle.limits.specs.Ranges.{most_demand}
use Rattle.verdict.proofs.First.{both}
use Rattle.hour_glance.proofs.JoinedWords.{joined_hour}
use Rattle.hour_glance.proofs.glance.Goals as goal
use Rattle.hour_glance.proofs.glance.Goals.{then-accepted, else-accepted}

pub returns-then-usual : goal.returns-then-usual
returns-then-usual c = λ enough. elim c.if-accepted.branch [
  | then-accepted w ↦
      let s = c.args in
      let a = both _ _ (sym c.accepted.ensures ∙ w.if-accepted.true) in
      let u = both _ _ (sym w.usual.ensures ∙ sym w.value-is ∙ c.if-usual.true) in
      let some = both _ _ u.0 in
      let sum = c.demand_sum-demand in
      let most : sum.result ≤ most_demand = leb-true _ _ a.1 in
      let least : s.kind ≤ sum.result = leb-true _ _ enough in
      joined_hour s.body.now s.kind s.load s.count s.at _ _ _ c.intervals_joined-joined.ensures (ltb-true _ _ some.1)
      (ltb-true _ _ u.1) c.numbers_gathered-numbers.ensures (eqb-true _ _ a.0) (not-true _ some.0)
      (omega (arith, sum.ensures)) (omega (arith, sum.ensures))
  | else-accepted w ↦ absurd (true≢false (sym c.if-usual.true ∙ w.value-is ∙ w.if-accepted.false))
]

use Rattle.std.proofs.Common.{refl, sym, arith}
use Rattle.verdict.proofs.First.{handed_on, loop_next, loop_stop, loop_done}
use Rattle.amounts.proofs.Hours.{walk_on}
use Rattle.settlement.specs.Settlement.{hours_refusal}
use Rattle.settlement.proofs.check_hours.Goals as goal

pub loop-h-init : goal.loop-h-init
unfolding hours_refusal
loop-h-init c = record { start = rw (c.word-load.ensures, c.word-count.ensures) at c.first_hour-at.ensures; rest = refl }

pub returns-in_err-check_hour : goal.returns-in_err-check_hour
returns-in_err-check_hour c =
    handed_on _ _ _ c.from_residual.ensures.1
    (loop_stop _ _ _ _ _ c.loop-h.invariant.rest c.loop-h-test.true (sym c.in_err-check_hour.ensures))

pub next_hour-at-requires : goal.next_hour-at-requires
next_hour-at-requires c =
    let l = c.loop-h in
    walk_on _ c.requires.1.0 l.h (omega arith) _ l.invariant.start _ _ c.word-load.ensures c.word-count.ensures (omega arith)

pub loop-h-preserved : goal.loop-h-preserved
loop-h-preserved c = record {
  start = rw (← c.word-load.ensures, ← c.word-count.ensures) c.next_hour-at.ensures;
  rest = loop_next _ _ _ _ _ c.loop-h.invariant.rest c.loop-h-test.true (sym c.in_ok-check_hour.ensures);
}

pub returns : goal.returns
returns c = loop_done _ _ _ _ c.loop-h.invariant.rest c.loop-h-test.false

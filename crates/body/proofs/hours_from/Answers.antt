use Rattle.std.proofs.Common.{◌&&◌, sym, ap₂, add-one, arith}
use Rattle.verdict.proofs.First.{handed_on_in, loop_next, loop_stop, loop_done}
use Rattle.body.specs.Check.{hour_rule_at}
use Rattle.body.specs.Plain.{plain_hours}
use Rattle.body.proofs.HourPlaces.{hour_room}
use Rattle.body.proofs.PlainHours.{plain_behind, rule_behind}
use Rattle.body.proofs.hours_from.Goals as goal

pub loop-h-init : goal.loop-h-init
loop-h-init c =
    let behind = c.requires.behind in
    record {
      within = behind.within;
      here = behind.here;
      told = sym (plain_behind _ _ _ _ _ _ behind);
      rest = rule_behind _ _ _ _ _ _ behind _;
    }

pub check-requires : goal.check-requires
check-requires c =
    let s = c.args in
    let room = hour_room s.load s.count c.loop-h.h c.loop-h-test.true in
    omega (arith, c.requires.sizes)

pub returns-in_err-seen-clause-answer_value : goal.returns-in_err-seen-clause-answer_value
unfolding hour_rule_at
returns-in_err-seen-clause-answer_value c =
    let is = rw c.loop-h.invariant.here at c.in_err-seen.ensures.answer_value in
    handed_on_in _ _ _ c.from_residual.ensures.1 (loop_stop _ _ _ _ _ c.loop-h.invariant.rest c.loop-h-test.true (sym is))

pub next_hour-at-requires : goal.next_hour-at-requires
next_hour-at-requires c =
    let s = c.args in
    let room = hour_room s.load s.count c.loop-h.h c.loop-h-test.true in
    (c.loop-h.invariant.here, omega (arith, c.requires.sizes))

pub loop-h-preserved : goal.loop-h-preserved
unfolding hour_rule_at plain_hours
loop-h-preserved c =
    let l = c.loop-h in
    let accepted = rw l.invariant.here at c.in_ok-seen.ensures.answer_value in
    let plain = rw l.invariant.here at c.in_ok-seen.ensures.plain_value in
    record {
      within = omega arith;
      here = c.next_hour-at.ensures;
      told = rw add-one (ap₂ ◌&&◌ l.invariant.told plain);
      rest = loop_next _ _ _ _ _ l.invariant.rest c.loop-h-test.true (sym accepted);
    }

pub returns-clause-answer_value : goal.returns-clause-answer_value
returns-clause-answer_value c = loop_done _ _ _ _ c.loop-h.invariant.rest c.loop-h-test.false

use Rattle.std.proofs.Common.{arith}
use Rattle.body.proofs.HourPlaces.{hour_room}
use Rattle.body.proofs.glance_hours.Goals as goal

pub glance-requires : goal.glance-requires
glance-requires c =
    let s = c.args in
    let room = hour_room s.load s.count c.loop-h.h c.loop-h-test.true in
    omega (arith, c.loop-h.invariant.here)

pub next_hour-at-requires : goal.next_hour-at-requires
next_hour-at-requires c =
    let s = c.args in
    let room = hour_room s.load s.count c.loop-h.h c.loop-h-test.true in
    (c.loop-h.invariant.here, omega (arith, c.loop-h.invariant.here))

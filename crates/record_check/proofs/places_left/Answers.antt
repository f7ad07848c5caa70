use Rattle.std.proofs.Common.{sym, ◌∙◌, arith}
use Rattle.recording.specs.Record.{place, entries}
use Rattle.record_check.proofs.Left.{place_kept, places_stop, places_next, places_done}
use Rattle.record_check.proofs.places_left.Goals as goal

pub returns-then-not-place_left : goal.returns-then-not-place_left
returns-then-not-place_left c =
    places_stop _ _ (entries c.args.given) _ (place 0 0) _ c.loop-p-test.true c.loop-p.invariant
    (sym c.place_left.ensures ∙ c.if-not-place_left.true)

pub overflow_add-low : goal.overflow_add-low
overflow_add-low c =
    let known = (place_kept _ _ _ (sym c.place_left.ensures ∙ c.if-not-place_left.false)).known in
    omega arith

pub loop-p-preserved : goal.loop-p-preserved
loop-p-preserved c =
    places_next _ _ (entries c.args.given) _ (place 0 0) _ c.loop-p-test.true c.loop-p.invariant
    (sym c.place_left.ensures ∙ c.if-not-place_left.false)

pub returns : goal.returns
returns c = places_done _ _ (entries c.args.given) _ _ c.loop-p-test.false c.loop-p.invariant

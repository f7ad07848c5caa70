use Rattle.std.proofs.Common.{arith, length-take, ◌∙◌}
use Rattle.recording.specs.Record.{place, entries}
use Rattle.recording.proofs.Lists.{pushed_next}
use Rattle.recording.proofs.extended.Goals as goal

pub loop-p-preserved : goal.loop-p-preserved
loop-p-preserved c =
    let a = c.args in
    c.push-longer.ensures
    ∙ pushed_next a.onto.last (entries a.onto) a.places.now c.loop-p.p-index (place 0 0) c.loop-p.longer c.loop-p-test.true
    (omega (arith, length-take a.onto.held a.onto.places)) c.loop-p.invariant

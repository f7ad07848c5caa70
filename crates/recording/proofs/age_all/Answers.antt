use Rattle.std.proofs.Common.{◌∙◌, ap, arith, take, length-take}
use Rattle.recording.specs.Record.{place, entries, kept}
use Rattle.recording.proofs.Lists.{age_gone, age_stays, kept_most}
use Rattle.recording.proofs.age_all.Goals as goal
use Rattle.recording.proofs.age_all.Goals.{then-marks-ne0, else-marks-ne0}

pub loop-p-init : goal.loop-p-init
unfolding kept
loop-p-init c = c.empty-out.ensures

pub push-out-requires : goal.push-out-requires
push-out-requires c =
    let l = entries c.args.given in
    omega (arith, ap (λ r. r.held) c.loop-p.invariant, kept_most c.args.g (take c.loop-p.p-index l), length-take c.loop-p.p-index l, length-take c.args.given.held c.args.given.places)

pub loop-p-preserved : goal.loop-p-preserved
loop-p-preserved c =
    let l = entries c.args.given in
    elim c.if-marks-ne0.branch [
      | then-marks-ne0 w ↦ age_stays c.args.g c.args.date l c.loop-p.p-index c.age-marks.result (place 0 0) c.loop-p.out c.loop-p-test.true c.loop-p.invariant
          c.age-marks.ensures c.if-marks-ne0.out w.if-marks-ne0.true (w.out-is ∙ w.push-out.ensures) (omega (arith, length-take c.args.given.held c.args.given.places))
      | else-marks-ne0 w ↦ w.out-is ∙ age_gone c.args.g c.args.date l c.loop-p.p-index c.age-marks.result (place 0 0) c.loop-p.out c.loop-p-test.true
          c.loop-p.invariant c.age-marks.ensures w.if-marks-ne0.false
    ]

use Rattle.std.proofs.Common.{refl, ap, ◌∙◌, arith}
use Rattle.body.specs.Layout.{coordinators_of}
use Rattle.settlement.specs.Settlement.{needed_to}
use Rattle.settlement.proofs.Areas.{needed_more, needed_small, area_few}
use Rattle.settlement.proofs.numbers_needed.Goals as goal

pub loop-k-init : goal.loop-k-init
unfolding needed_to
loop-k-init c = refl

pub overflow_add-needed : goal.overflow_add-needed
overflow_add-needed c =
    let f = c.args.file.now in
    let l = c.loop-k in
    let sound = c.requires.0 in
    let count = c.word-count.ensures ∙ ap coordinators_of c.body_at.ensures.0 in
    let few = area_few f sound l.k (omega (arith, c.requires.1, c.loop-k-test.true)) in
    let before = needed_small f sound l.k (omega (arith, c.requires.1, c.loop-k-test.true)) in
    omega (arith, count, few, before, l.invariant, sound.few, c.requires.1, c.loop-k-test.true, c.area_numbers-needed.ensures)

pub loop-k-preserved : goal.loop-k-preserved
loop-k-preserved c =
    let l = c.loop-k in
    let count = c.word-count.ensures ∙ ap coordinators_of c.body_at.ensures.0 in
    omega (arith, count, needed_more c.args.file.now l.k, l.invariant, c.area_numbers-needed.ensures)

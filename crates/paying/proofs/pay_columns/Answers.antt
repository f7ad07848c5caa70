use Rattle.std.proofs.Common.{◌∙◌, add-one, refl}
use Rattle.paying.specs.Columns.{paid_to}
use Rattle.paying.proofs.Sizes.{still_kept}
use Rattle.paying.proofs.pay_columns.Goals as goal

pub loop-j-init : goal.loop-j-init
unfolding paid_to
loop-j-init c = refl

pub pay_column-requires : goal.pay_column-requires
pay_column-requires c =
    let a = c.args in
    let below = c.loop-j-test.true in
    (below, rw c.loop-j.invariant (still_kept a.bases.now a.n c.loop-j.j a.payments.now below (c.requires c.loop-j.j below)))

pub loop-j-preserved : goal.loop-j-preserved
unfolding paid_to
loop-j-preserved c = c.pay_column.ensures ∙ rw (c.loop-j.invariant, add-one c.loop-j.j)

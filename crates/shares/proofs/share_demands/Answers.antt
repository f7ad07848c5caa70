use Rattle.std.proofs.Common.{arith, refl, ◌∙◌}
use lib.IntN.{pos}
use lib.ListN.{drop_of_length-le}
use mir.Syntax.{w64}
use mir.ValLaws.{to_z-of_z}
use Rattle.exact.proofs.Machine.{got}
use Rattle.exact.proofs.Filling.{fill_start, fill_step, fill_end, drop_next}
use Rattle.shares.proofs.Sharing.{shared_start, next_within, charge_place, charge_is, shared_step, shared_end}
use Rattle.shares.proofs.share_demands.Goals as goal

pub loop-i-init : goal.loop-i-init
loop-i-init c =
    let b = c.begin-carried.ensures in
    record {
      shared = shared_start _ _ c.begin-carried.result b.0 b.1.0 (b.1.1.0 ∙ c.sum_of_demands.ensures) b.1.1.1;
      filling = fill_start _ _;
    }

pub charge-requires : goal.charge-requires
charge-requires c =
    let v = c.loop-i.invariant.shared in
    (v.begun, next_within v (c.loop-i-test.true, refl))

pub loop-i-preserved : goal.loop-i-preserved
loop-i-preserved c =
    let l = c.loop-i in
    let v = l.invariant.shared in
    let charge = charge_is v (c.loop-i-test.true, refl) c.charge.ensures.charged in
    record {
      shared = shared_step v (c.loop-i-test.true, refl) c.charge.ensures.carried_on;
      filling =
          fill_step _ (rw (drop_next _ l.i (pos 0) (charge_place v (c.loop-i-test.true, refl)), ← got w64 c.charge.type_inv charge) at l.invariant.filling)
          (omega arith);
    }

pub returns : goal.returns
returns c =
    let l = c.loop-i in
    let done = shared_end l.invariant.shared refl c.loop-i-test.false in
    rw (done.0, to_z-of_z w64 _ c.ranges.amount) at (fill_end (rw (drop_of_length-le _ {i = l.i} done.1) at l.invariant.filling))

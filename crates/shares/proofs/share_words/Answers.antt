use Rattle.std.proofs.Common.{refl, ◌∙◌}
use lib.Seq.{take_all}
use mir.Syntax.{w64}
use mir.ValLaws.{to_z-of_z}
use Rattle.exact.proofs.Machine.{got}
use Rattle.words.specs.Bytes.{words_from}
use Rattle.words.proofs.Words.{words_count}
use Rattle.encoding.specs.Encoding.{encoded}
use Rattle.encoding.proofs.Encoding.{encoded_step}
use Rattle.shares.proofs.Running.{DemandAt, word_demand}
use Rattle.shares.proofs.Sharing.{shared_start, next_within, charge_place, charge_is, shared_step, shared_end}
use Rattle.shares.proofs.share_words.Goals as goal

pub loop-i-init : goal.loop-i-init
unfolding encoded
loop-i-init c =
    let b = c.begin-carried.ensures in
    record {
      shared = shared_start _ _ c.begin-carried.result b.0 b.1.0 (b.1.1.0 ∙ c.sum_of_words.ensures) b.1.1.1;
      written = refl;
    }

pub charge-charge-requires : goal.charge-charge-requires
charge-charge-requires c =
    let v = c.loop-i.invariant.shared in
    (v.begun, next_within v (word_demand _ _ _ c.loop-i-test.true c.word.ensures))

pub loop-i-preserved : goal.loop-i-preserved
loop-i-preserved c =
    let l = c.loop-i in
    let v = l.invariant.shared in
    let s = c.args in
    let at : DemandAt (words_from s.bytes.now s.from s.count) l.i c.word.result = word_demand _ _ _ c.loop-i-test.true c.word.ensures in
    let charge = charge_is v at c.charge-charge.ensures.charged in
    record {
      shared = shared_step v at c.charge-charge.ensures.carried_on;
      written = encoded_step _ l.i _ _ l.charges _ (charge_place v at) (got w64 c.charge-charge.type_inv charge) l.invariant.written c.put_number.ensures;
    }

pub returns : goal.returns
returns c =
    let l = c.loop-i in
    let done = shared_end l.invariant.shared (words_count _ _ _) c.loop-i-test.false in
    rw (take_all l.i _ done.1, done.0, to_z-of_z w64 _ c.ranges.amount) at l.invariant.written

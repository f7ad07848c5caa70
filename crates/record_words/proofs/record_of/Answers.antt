use Rattle.std.proofs.Common.{◌<◌, ◌≢◌, arith, length, length-set, below_more, get_or-set_same, get_or-set_other}
use Rattle.record_words.proofs.record_of.Goals as goal

pub loop-k-preserved : goal.loop-k-preserved
loop-k-preserved c =
    let inside : c.loop-k.k < length c.loop-k.places = omega arith in
    record {
      length_is = simp length-set c.loop-k.invariant.length_is;
      read =
          below_more _ _
          (λ j h. let other : j ≢ c.loop-k.k = omega arith in rw get_or-set_other (c.loop-k.invariant.read j h))
          (rw get_or-set_same);
    }

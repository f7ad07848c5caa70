use Rattle.std.proofs.Common.{get_or, refl, arith, rules, pos, w64, SFits, to_z-of_z}
use Rattle.encoding.specs.Encoding.{encoded}
use Rattle.encoding.proofs.Encoding.{encoded_step}
use Rattle.encoding.proofs.put_numbers.Goals as goal

pub loop-i-init : goal.loop-i-init
unfolding encoded
loop-i-init c = refl

pub loop-i-preserved : goal.loop-i-preserved
loop-i-preserved c =
    let s = c.args in
    let l = c.loop-i in
    let fits : SFits w64 (get_or s.numbers.now l.i (pos 0)) = search rules in
    encoded_step s.numbers.now l.i _ s.bytes.now l.bytes c.put_number.new.bytes (omega arith) (to_z-of_z fits) l.invariant c.put_number.ensures

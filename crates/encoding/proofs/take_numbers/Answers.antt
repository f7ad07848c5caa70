use Rattle.std.proofs.Common.{◌≡◌, arith, w64, SFits, to_z-of_z, rules, length}
use Rattle.std.proofs.lemmas.List.{take_all}
use Rattle.encoding.specs.Encoding.{number_in}
use Rattle.encoding.proofs.Decoding.{taken, taken_more}
use Rattle.encoding.proofs.take_numbers.Goals as goal

pub loop-i-preserved : goal.loop-i-preserved
loop-i-preserved c =
    let fits : SFits w64 c.number.result = search rules in
    let eights = c.as_chunks.result.0.now in
    rw (to_z-of_z fits, c.number.ensures)
    (taken_more number_in eights c.args.numbers.now c.loop-i.numbers c.loop-i.i _ (omega arith) (omega arith) c.loop-i.invariant)

pub returns : goal.returns
returns c =
    let eights = c.as_chunks.result.0.now in
    let all : c.loop-i.i ≡ length eights = omega arith in
    rw (c.loop-i.invariant, take_all c.loop-i.i eights (omega arith), all, c.as_chunks.ensures.front_len, c.as_chunks.ensures.front)
    (taken c.args.bytes.now c.args.numbers.now)

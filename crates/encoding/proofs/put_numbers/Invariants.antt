use Rattle.std.proofs.Common.{◌≡◌, ◌++◌, ◌*◌, take, drop}
use Rattle.encoding.specs.Encoding.{encoded}
use Rattle.encoding.proofs.put_numbers.Given as goal

abbrev pub invariant-loop-i : goal.invariant-loop-i
invariant-loop-i l = l.bytes ≡ encoded (take l.i l.numbers) ++ drop (8 * l.i) l.initial.bytes

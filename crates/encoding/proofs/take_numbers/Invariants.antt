use Rattle.std.proofs.Common.{◌≡◌, ◌++◌, take, drop, map}
use Rattle.encoding.specs.Encoding.{number_in}
use Rattle.encoding.proofs.take_numbers.Given as goal

abbrev pub invariant-loop-i : goal.invariant-loop-i
invariant-loop-i l = l.numbers ≡ map number_in (take l.i l.eights) ++ drop l.i l.initial.numbers

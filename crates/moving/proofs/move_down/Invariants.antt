use Rattle.std.proofs.Common.{◌≡◌, ◌*◌}
use Rattle.moving.specs.Written.{written, part}
use Rattle.moving.proofs.move_down.Given as goal

abbrev pub invariant-loop-k : goal.invariant-loop-k
invariant-loop-k l = l.room ≡ written l.initial.room l.to (part l.initial.room l.from (4096 * l.k))

use Rattle.std.proofs.Common.{◌≡◌, ◌+◌, ◌-◌, ◌*◌}
use Rattle.moving.specs.Written.{written, part}
use Rattle.moving.proofs.move_up.Given as goal

-- the bytes from `left` on are moved
abbrev pub invariant-loop-k : goal.invariant-loop-k
invariant-loop-k l =
    let left = l.rest + 4096 * l.k in l.room ≡ written l.initial.room (l.to + left) (part l.initial.room (l.from + left) (l.count - left))

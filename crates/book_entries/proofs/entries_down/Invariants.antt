use Rattle.std.proofs.Common.{◌≡◌, ◌+◌, ◌*◌, ◌-◌}
use Rattle.moving.specs.Written.{written}
use Rattle.book_entries.specs.Entries.{earlier}
use Rattle.book_entries.proofs.entries_down.Given as goal

abbrev pub invariant-loop-k : goal.invariant-loop-k
invariant-loop-k l = l.room ≡ written l.initial.room (8 + 12 * l.low) (earlier l.initial.room l.less (l.low + l.down) (l.k - l.low))

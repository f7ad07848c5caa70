use Rattle.std.proofs.Common.{◌≡◌, ◌+◌, ◌*◌, ◌-◌, ◌≤◌}
use Rattle.moving.specs.Written.{written}
use Rattle.book_entries.specs.Entries.{later}
use Rattle.book_entries.proofs.entries_up.Given as goal

abbrev pub invariant-loop-k : goal.invariant-loop-k
invariant-loop-k l =
    (l.low ≤ l.k) × (l.room ≡ written l.initial.room (8 + 12 * (l.k + l.up)) (later l.initial.room l.more l.k (l.high - l.k)))

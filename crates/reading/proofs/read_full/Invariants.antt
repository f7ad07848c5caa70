-- The room keeps its length, and what is done is within it.
use Rattle.std.proofs.Common.{◌≡◌, ◌≤◌, length}
use Rattle.reading.proofs.read_full.Given as goal

abbrev pub invariant-loop : goal.invariant-loop
invariant-loop g l = (length l.room ≡ length l.fn.room) × (l.done ≤ length l.fn.room)

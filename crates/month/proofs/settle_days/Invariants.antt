-- The days so far are settled, each in its part, and their places of the table are told.
use Rattle.std.proofs.Common.{◌≡◌, ◌≤◌, ◌-◌, ◌++◌, length, take, drop}
use Rattle.exact.proofs.Filling.{Filling}
use Rattle.book.specs.Read.{days_from, days_of}
use Rattle.month_rules.specs.Month.{places_of, settled_days}
use Rattle.month.proofs.settle_days.Given as goal

abbrev pub invariant-loop-i : goal.invariant-loop-i
invariant-loop-i l = record {
  inside : l.to ≤ length l.statement;
  long : length l.statement ≡ length l.fn.statement;
  settled : take l.to l.statement ++ settled_days (days_from l.book l.i (l.n - l.i)) (drop l.to l.statement)
      ≡ settled_days (days_of l.book) l.fn.statement;
  told : Filling (places_of (length l.fn.statement) (days_of l.book)) l.fn.table l.table
      (places_of (length l.statement - l.to) (days_from l.book l.i (l.n - l.i))) l.i;
}

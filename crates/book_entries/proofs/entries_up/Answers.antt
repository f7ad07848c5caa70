use Rattle.std.proofs.Common.{◌≡◌, ◌+◌, ◌-◌, ◌*◌, sym, arith}
use Rattle.moving.proofs.Written.{written_none}
use Rattle.book_entries.specs.Entries.{later}
use Rattle.book_entries.proofs.Entries.{entry_before, later_keeps}
use Rattle.book_entries.proofs.entries_up.Goals as goal

pub loop-k-init : goal.loop-k-init
unfolding later
loop-k-init c =
    let high = c.args.high in
    let none : high - high ≡ 0 = omega arith in
    (omega arith, rw none (sym (written_none _ _)))

pub overflow_add-start : goal.overflow_add-start
overflow_add-start c =
    let s = c.args in
    let l = c.loop-k in
    let stays = later_keeps s.room.now l.room s.more l.k s.up s.high (omega arith) (omega arith) l.invariant.1
    (2 + 3 * (l.k - 1) + 1) (omega arith) in
    omega (arith, c.word-start.ensures, stays, c.requires.1.1 (l.k - 1) (omega arith))

pub loop-k-preserved : goal.loop-k-preserved
loop-k-preserved c =
    let s = c.args in
    let l = c.loop-k in
    let k : l.k - 1 + 1 ≡ l.k = omega arith in (
      omega arith,
      entry_before s.room.now l.room _ s.more (l.k - 1) s.up s.high (omega arith) (omega arith) (rw k l.invariant.1)
          (rw c.word-start.ensures at c.copy_entry.ensures),
    )

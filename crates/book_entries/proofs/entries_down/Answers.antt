use Rattle.std.proofs.Common.{◌≡◌, ◌+◌, ◌-◌, ◌*◌, sym, arith}
use Rattle.moving.proofs.Written.{written_none}
use Rattle.book_entries.specs.Entries.{earlier}
use Rattle.book_entries.proofs.Entries.{entry_behind, earlier_keeps}
use Rattle.book_entries.proofs.entries_down.Goals as goal

pub loop-k-init : goal.loop-k-init
unfolding earlier
loop-k-init c =
    let low = c.args.low in
    let none : low - low ≡ 0 = omega arith in
    rw none (sym (written_none _ _))

pub overflow_sub-start : goal.overflow_sub-start
overflow_sub-start c =
    let s = c.args in
    let l = c.loop-k in
    let stays = earlier_keeps s.room.now l.room s.less s.low l.k s.down (omega arith) (omega arith) l.invariant
    (2 + 3 * (l.k + s.down) + 1) (omega arith) in
    omega (arith, c.word-start.ensures, stays, c.requires.1.1 (l.k + s.down) (omega arith) (omega arith))

pub loop-k-preserved : goal.loop-k-preserved
loop-k-preserved c =
    let s = c.args in
    let l = c.loop-k in
    entry_behind s.room.now l.room _ s.less s.low l.k s.down (omega arith) (omega arith) l.invariant (rw c.word-start.ensures at c.copy_entry.ensures)

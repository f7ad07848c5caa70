use Rattle.std.proofs.Common.{◌+◌, ◌*◌, arith}
use Rattle.book_entries.proofs.Steps.{head_stand, front_stand, all_left}
use Rattle.book_entries.proofs.leave.Goals as goal

pub entries_down-requires : goal.entries_down-requires
entries_down-requires c =
    let a = c.args in
    let stand = head_stand a.room.now a.n a.k a.size c.requires.0 c.requires.1.1.0 c.put_word.new.room c.put_word-2.new.room
    c.put_word.ensures c.put_word-2.ensures in
    (omega arith, (omega arith, λ j q r. omega (arith, c.requires.1.1.1.1.0 j (omega arith), stand (2 + 3 * j + 1) (omega arith))))

pub entries_down-requires-2 : goal.entries_down-requires-2
entries_down-requires-2 c =
    let a = c.args in
    let stand = front_stand a.room.now a.n a.k a.size c.requires.0 c.requires.1.1.0 c.put_word.new.room c.put_word-2.new.room
    c.put_word.ensures c.put_word-2.ensures c.entries_down.new.room c.entries_down.ensures in
    (omega arith, (omega arith, λ j q r. omega (arith, c.requires.1.1.1.1.1 j (omega arith) (omega arith), stand (2 + 3 * j + 1) (omega arith))))

pub returns : goal.returns
returns c =
    let a = c.args in
    all_left a.room.now a.n a.k a.size c.requires.0 c.requires.1.1.0 c.put_word.new.room c.put_word-2.new.room
    c.put_word.ensures c.put_word-2.ensures c.entries_down.new.room c.entries_down.ensures _ c.entries_down-2.ensures

use Rattle.std.proofs.Common.{◌+◌, ◌*◌, arith}
use Rattle.book_entries.proofs.Steps.{words_stand, all_entered}
use Rattle.book_entries.proofs.enter.Goals as goal

pub entries_up-requires-2 : goal.entries_up-requires-2
entries_up-requires-2 c =
    let a = c.args in
    let stand = words_stand a.room.now a.n a.k a.date a.start a.size c.requires.0 c.requires.1.1.0 c.entries_up.new.room c.put_entry.new.room
    c.entries_up.ensures c.put_entry.ensures in
    (omega arith, (omega arith, λ j q. omega (arith, c.requires.1.1.1.1 j (omega arith), stand (2 + 3 * j + 1) (omega arith))))

pub returns : goal.returns
returns c =
    let a = c.args in
    all_entered a.room.now a.n a.k a.date a.start a.size c.requires.0 c.requires.1.1.0 c.entries_up.new.room c.put_entry.new.room
    c.entries_up.ensures c.put_entry.ensures c.entries_up-2.new.room c.put_word.new.room _
    c.entries_up-2.ensures c.put_word.ensures c.put_word-2.ensures

use Rattle.keeping_moves.proofs.Files.{closed_up}
use Rattle.keeping_moves.proofs.close_up.Goals as goal

pub returns : goal.returns
returns c =
    let a = c.args in
    closed_up a.room.now c.move_down.new.room c.move_down-2.new.room _ a.contents a.here a.next a.end c.requires.0 c.requires.1.0
    c.requires.1.1.0 c.requires.1.1.1.0 c.requires.1.1.1.1 c.move_down.ensures c.move_down-2.ensures c.clear.ensures

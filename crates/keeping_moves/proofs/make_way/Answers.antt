use Rattle.keeping_moves.proofs.Files.{way_made}
use Rattle.keeping_moves.proofs.make_way.Goals as goal

pub returns : goal.returns
returns c =
    let a = c.args in
    way_made a.room.now c.move_up.new.room c.copy_in.new.room _ a.file.now a.contents a.here a.end c.requires.0 c.requires.1.0
    c.requires.1.1 c.move_up.ensures c.copy_in.ensures c.move_up-2.ensures

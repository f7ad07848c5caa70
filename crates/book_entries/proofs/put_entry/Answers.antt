use Rattle.book_entries.proofs.Entries.{entry_written}
use Rattle.book_entries.proofs.put_entry.Goals as goal

pub returns : goal.returns
returns c =
    entry_written c.args.room.now c.put_word.new.room c.put_word-2.new.room _ c.args.k c.args.date c.args.start c.args.size
    c.requires c.put_word.ensures c.put_word-2.ensures c.put_word-3.ensures

-- Of an accepted book and file the words that are read are there, and the file fits the book, at its place by date.
use Rattle.std.proofs.Common.{ap, sym, arith}
use Rattle.verdict.specs.Verdict.{number_of}
use Rattle.dayfile.proofs.Facts.{within_limits, file_length}
use Rattle.keeping_places.specs.Place.{not_earlier}
use Rattle.keeping_places.proofs.Scan.{scan_within}
use Rattle.keeping.proofs.Rules.{add_file, add_long, add_sound, add_taken}
use Rattle.keeping.proofs.add_day.Goals as goal

pub word-date-requires : goal.word-date-requires
word-date-requires c =
    let accepted = ap number_of (sym c.in_ok-admit.ensures) in
    omega (arith, add_long c.args.book.now c.args.file.now accepted)

pub word-n-requires : goal.word-n-requires
word-n-requires c =
    let accepted = ap number_of (sym c.in_ok-admit.ensures) in
    omega (arith, (add_sound c.args.book.now c.args.file.now accepted).whole)

pub place-k-requires : goal.place-k-requires
place-k-requires c =
    let accepted = ap number_of (sym c.in_ok-admit.ensures) in
    omega (arith, c.word-n.ensures, (add_sound c.args.book.now c.args.file.now accepted).whole)

pub add_at-requires : goal.add_at-requires
add_at-requires c =
    let room = c.args.book.now in
    let file = c.args.file.now in
    let accepted = ap number_of (sym c.in_ok-admit.ensures) in
    let taken = add_taken room file accepted in
    let bytes = file_length _ file (within_limits file (add_file room file accepted)) in
    record {
      dated = c.word-date.ensures;
      sound = add_sound room file accepted;
      place = omega (arith, c.word-n.ensures, scan_within room (not_earlier c.word-date.result) 0 c.word-n.result);
      fits = omega (arith, taken.fits, bytes.whole);
      some = omega (arith, bytes.least);
      named = taken.named;
    }

use Prim.Native.Nat.{ℕ, ◌+◌, ◌*◌, ◌/◌, ◌≤◌}
use mathlib.Core.List.{List}
use mathlib.Core.Path.{◌≡◌, ap, ◌∙◌}
use native.Mathlib.Omega.{arith}
use lib.ListN.{length}
use Rattle.book.specs.Days.{book_of}
use Rattle.book.specs.Read.{count_of, due_at}
use Rattle.keeping_moves.specs.Moves.{added_at, Fits}
use Rattle.keeping_moves.proofs.Added.{low, high, starts_fit, added_done}
use Rattle.keeping_moves.proofs.add_at.Goals as goal

-- the three numbers that are read
record Numbers (room : List ℕ) (k n here end : ℕ) : Type 0 where
  number : n ≡ count_of room
  first : here ≡ due_at room k
  last : end ≡ due_at room (count_of room)
  behind : 8 + 12 * count_of room ≤ 4 * due_at room k
  before : due_at room k ≤ due_at room (count_of room)

numbers : {room : List ℕ} {k date : ℕ} {file : List ℕ} → Fits room k date file → {n here end : ℕ} → n ≡ count_of room → here ≡ due_at room k → end ≡ due_at room n
    → Numbers room k n here end
numbers {room} {k} {date} {file} fits e f g = record {
  number = e;
  first = f;
  last = g ∙ ap (due_at room) e;
  behind = low room fits.sound k date file fits.place;
  before = high room fits.sound k date file fits.place;
}

pub overflow_mul-here : goal.overflow_mul-here
overflow_mul-here c = let f = numbers c.requires c.word-n.ensures c.due-here.ensures c.due-end.ensures in omega arith

pub make_way-requires : goal.make_way-requires
make_way-requires c =
    let f = numbers c.requires c.word-n.ensures c.due-here.ensures c.due-end.ensures in
    (omega arith, (omega arith, omega arith))

pub overflow_add-here : goal.overflow_add-here
overflow_add-here c = let f = numbers c.requires c.word-n.ensures c.due-here.ensures c.due-end.ensures in omega arith

pub overflow_cast-here : goal.overflow_cast-here
overflow_cast-here c = let f = numbers c.requires c.word-n.ensures c.due-here.ensures c.due-end.ensures in omega arith

pub enter-requires : goal.enter-requires
enter-requires c =
    let f = numbers c.requires c.word-n.ensures c.due-here.ensures c.due-end.ensures in
    let fit = starts_fit c.args.room.now c.requires.sound c.args.k c.args.date c.args.file.now c.requires.place c.requires.fits
    c.make_way.new.room (rw (f.number, f.first, f.last) at c.make_way.ensures) (3 + length c.args.file.now / 4) (omega arith) in
    (omega arith, (omega arith, (omega arith, (omega arith, λ j q. fit j (omega arith)))))

pub returns : goal.returns
returns c =
    let f = numbers c.requires c.word-n.ensures c.due-here.ensures c.due-end.ensures in
    let room = c.args.room.now in
    let file = c.args.file.now in
    added_done room c.requires.sound c.args.k c.args.date file c.requires.place c.requires.fits c.make_way.new.room
    (rw (f.number, f.first, f.last) at c.make_way.ensures) _ (rw (f.number, f.first) at c.enter.ensures)
    ∙ ap (λ (date : ℕ). book_of (added_at room c.args.k (record { date = date; file = file })) room) c.requires.dated

use Prim.Native.Nat.{ℕ, ◌+◌, ◌*◌, ◌≤◌, ◌<◌}
use mathlib.Core.List.{List}
use mathlib.Core.Path.{◌≡◌, ap, ◌∙◌}
use native.Mathlib.Omega.{arith}
use lib.ListN.{length}
use Rattle.book.specs.Read.{count_of, due_at, size_at}
use Rattle.book.specs.Sound.{Sound}
use Rattle.keeping_moves.proofs.Withdrawn.{first_due, last_due, starts_late, starts_later, withdrawn}
use Rattle.keeping_moves.proofs.withdraw_at.Goals as goal

-- the four numbers that are read
record Numbers (room : List ℕ) (k n size here end : ℕ) : Type 0 where
  number : n ≡ count_of room
  long : size ≡ size_at room k
  first : here ≡ due_at room k
  last : end ≡ due_at room (count_of room)
  behind : 8 + 12 * count_of room ≤ 4 * due_at room k
  before : due_at room k + size_at room k ≤ due_at room (count_of room)
  inside : 4 * due_at room (count_of room) ≤ length room

numbers : (room : List ℕ) (k : ℕ) → k < count_of room → Sound room → {n size here end : ℕ} → n ≡ count_of room → size ≡ size_at room k → here ≡ due_at room k
    → end ≡ due_at room n → Numbers room k n size here end
numbers room k h sound e f g i = record {
  number = e;
  long = f;
  first = g;
  last = i ∙ ap (due_at room) e;
  behind = first_due room sound k h;
  before = last_due room sound k h;
  inside = sound.inside;
}

pub leave-requires : goal.leave-requires
leave-requires c =
    let room = c.args.room.now in
    let k = c.args.k in
    let h = c.requires.0 in
    let sound = c.requires.1 in
    let f = numbers room k h sound c.word-n.ensures c.word-size.ensures c.due-here.ensures c.due-end.ensures in
    let late = starts_late room sound k h in
    let later = starts_later room sound k h in
    (omega arith, (omega arith, (omega (arith, sound.whole), (omega arith, (late, λ j q r. omega (arith, later j q (omega arith)))))))

pub overflow_mul-here : goal.overflow_mul-here
overflow_mul-here c =
    let f = numbers _ _ c.requires.0 c.requires.1 c.word-n.ensures c.word-size.ensures c.due-here.ensures c.due-end.ensures in
    omega arith

pub overflow_mul-here-2 : goal.overflow_mul-here-2
overflow_mul-here-2 c =
    let f = numbers _ _ c.requires.0 c.requires.1 c.word-n.ensures c.word-size.ensures c.due-here.ensures c.due-end.ensures in
    omega arith

pub overflow_add-here : goal.overflow_add-here
overflow_add-here c =
    let f = numbers _ _ c.requires.0 c.requires.1 c.word-n.ensures c.word-size.ensures c.due-here.ensures c.due-end.ensures in
    omega arith

pub close_up-requires : goal.close_up-requires
close_up-requires c =
    let f = numbers _ _ c.requires.0 c.requires.1 c.word-n.ensures c.word-size.ensures c.due-here.ensures c.due-end.ensures in
    (omega arith, (omega arith, (omega arith, (omega arith, omega arith))))

pub returns : goal.returns
returns c =
    let f = numbers _ _ c.requires.0 c.requires.1 c.word-n.ensures c.word-size.ensures c.due-here.ensures c.due-end.ensures in
    withdrawn c.args.room.now c.requires.1 c.args.k c.requires.0 c.leave.new.room _ (rw (f.number, f.long) at c.leave.ensures)
    (rw (f.number, f.long, f.first, f.last) at c.close_up.ensures)

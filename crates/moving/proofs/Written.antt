-- What `written` leaves standing, what it puts there, and a turn of each loop that moves.
use Rattle.std.proofs.Common.{◌≡◌, ℕ, ◌+◌, ◌-◌, ◌≤◌, List, [], ◌++◌, length, take, drop, ◌∙◌, arith, append_assoc, drop-drop, take-add, ext_get_or, take_at, drop_at}
use Rattle.std.proofs.lemmas.Grind.{common_steps}
use Rattle.exact.proofs.Lending.{part_length}
use Rattle.moving.specs.Written.{written, part}

module _ (room : List ℕ) (at : ℕ) (bytes : List ℕ) (fits : at + length bytes ≤ length room) where
  front_length : length (take at room ++ bytes) ≡ at + length bytes
  front_length = grind (arith, common_steps)

  -- behind what was written all stays
  written_behind : (b : ℕ) → at + length bytes ≤ b → drop b (written room at bytes) ≡ drop b room
  unfolding written
  written_behind b h =
      let e : at + length bytes + (b - (at + length bytes)) ≡ b = omega arith in
      rw (
        ← e,
        ← drop-drop (b - (at + length bytes)) (at + length bytes) (take at room ++ bytes ++ drop (at + length bytes) room),
        drop_at (take at room ++ bytes) (drop (at + length bytes) room) (at + length bytes) front_length,
      )
      (drop-drop (b - (at + length bytes)) (at + length bytes) room)

-- nothing written
pub written_none : (room : List ℕ) (at : ℕ) → written room at [] ≡ room
unfolding written
written_none room at = grind (arith, common_steps)

-- written twice, the second time right behind the first
written_on : (room : List ℕ) (at : ℕ) (xs ys : List ℕ) → at + length xs + length ys ≤ length room
    → written (written room at xs) (at + length xs) ys ≡ written room at (xs ++ ys)
unfolding written
written_on room at xs ys h =
    let far : at + length (xs ++ ys) ≡ at + length xs + length ys = grind (arith, common_steps) in
    let upto = take_at (take at room ++ xs) (drop (at + length xs) room) (at + length xs) (front_length room at xs (omega arith)) in
    rw (upto, written_behind room at xs (omega arith) (at + length xs + length ys) (omega arith), far, append_assoc (take at room) xs ys)

-- written twice, the second time right before the first
written_back : (room : List ℕ) (at : ℕ) (xs ys : List ℕ) → at + length xs + length ys ≤ length room
    → written (written room (at + length xs) ys) at xs ≡ written room at (xs ++ ys)
unfolding written
written_back room at xs ys h = grind (arith, common_steps)

-- a part that lies before, or behind, what was written
pub part_before : (room : List ℕ) (at : ℕ) (bytes : List ℕ) (from n : ℕ) → at + length bytes ≤ length room → from + n ≤ at
    → part (written room at bytes) from n ≡ part room from n
unfolding written
part_before room at bytes from n h k = ext_get_or 0 _ _ (grind (arith, common_steps)) (λ j p. grind (arith, common_steps))

pub part_behind : (room : List ℕ) (at : ℕ) (bytes : List ℕ) (from n : ℕ) → at + length bytes ≤ length room → at + length bytes ≤ from
    → part (written room at bytes) from n ≡ part room from n
part_behind room at bytes from n h k = rw (written_behind room at bytes h from k)

pub part_add : (room : List ℕ) (from n m : ℕ) → part room from (n + m) ≡ part room from n ++ part room (from + n) m
part_add room from n m = rw (take-add n m (drop from room), drop-drop n from room)

-- what was written so far stands at b; the next bytes come right before it, or right behind it
pub then_before : (old now next bytes done : List ℕ) (at b : ℕ) → at + length bytes ≡ b → b + length done ≤ length old → now ≡ written old b done
    → next ≡ written now at bytes → next ≡ written old at (bytes ++ done)
then_before old now next bytes done at b e h stands came =
    came ∙ rw (stands, ← e) (written_back old at bytes done (rw e h))

pub then_behind : (old now next bytes done : List ℕ) (at b : ℕ) → at + length done ≡ b → b + length bytes ≤ length old → now ≡ written old at done
    → next ≡ written now b bytes → next ≡ written old at (done ++ bytes)
then_behind old now next bytes done at b e h stands came =
    came ∙ rw (stands, ← e) (written_on old at done bytes (rw e h))

-- the next n bytes towards the front
pub chunk_down : (room now next : List ℕ) (from to i n : ℕ) → to ≤ from → from + (i + n) ≤ length room
    → now ≡ written room to (part room from i) → next ≡ written now (to + i) (part now (from + i) n)
    → next ≡ written room to (part room from (i + n))
chunk_down room now next from to i n h k stands came =
    let done = part room from i in
    let l : length done ≡ i = part_length room from i (omega arith) in
    let m = part_length room (from + i) n (omega arith) in
    let read : part now (from + i) n ≡ part room (from + i) n =
    rw stands (part_behind room to done (from + i) n (rw l (omega arith)) (rw l (omega arith))) in
    rw (part_add room from i n)
    (then_behind room now next (part room (from + i) n) done to (to + i) (rw l) (omega (arith, m)) stands (rw read at came))

-- the first n bytes towards the back, the m behind them being there
pub chunk_last : (room now next : List ℕ) (from to n m : ℕ) → from ≤ to → to + (n + m) ≤ length room
    → now ≡ written room (to + n) (part room (from + n) m) → next ≡ written now to (part now from n)
    → next ≡ written room to (part room from (n + m))
chunk_last room now next from to n m h k stands came =
    let done = part room (from + n) m in
    let l = part_length room from n (omega arith) in
    let r : length done ≡ m = part_length room (from + n) m (omega arith) in
    let read : part now from n ≡ part room from n =
    rw stands (part_before room (to + n) done from n (rw r (omega arith)) (omega arith)) in
    rw (part_add room from n m)
    (then_before room now next (part room from n) done to (to + n) (rw l) (rw r (omega arith)) stands (rw read at came))

-- the n bytes before `left + n` towards the back
pub chunk_up : (room now next : List ℕ) (from to left n m : ℕ) → from ≤ to → to + (left + n + m) ≤ length room
    → now ≡ written room (to + (left + n)) (part room (from + (left + n)) m)
    → next ≡ written now (to + left) (part now (from + left) n) → next ≡ written room (to + left) (part room (from + left) (n + m))
chunk_up room now next from to left n m h k stands came =
    let e : to + (left + n) ≡ to + left + n = omega arith in
    let f : from + (left + n) ≡ from + left + n = omega arith in
    chunk_last room now next (from + left) (to + left) n m (omega arith) (omega arith) (rw (e, f) at stands) came

-- The files of a book while a file comes to them or goes: what stands in the room after each move.
use Prim.Native.Nat.{ℕ, ◌+◌, ◌-◌, ◌≤◌}
use mathlib.Core.Path.{◌≡◌, refl}
use mathlib.Core.List.{List, ◌++◌}
use native.Mathlib.Omega.{arith}
use lib.ListN.{length, length-append, replicate, length-replicate}
use Rattle.exact.proofs.Lending.{part_length}
use Rattle.moving.specs.Written.{written, part}
use Rattle.moving.proofs.Written.{then_before, then_behind, part_before, part_behind}

-- the files behind, the new file, the files before
pub way_made : (room one two three file : List ℕ) (contents here end : ℕ) → contents ≤ here → here ≤ end → end + 12 + length file ≤ length room
    → one ≡ written room (here + 12 + length file) (part room here (end - here))
    → two ≡ written one (here + 12) file
    → three ≡ written two (contents + 12) (part two contents (here - contents))
    → three ≡ written room (contents + 12) (part room contents (here - contents) ++ (file ++ part room here (end - here)))
way_made room one two three file contents here end h k l e f g =
    let n : length (part room here (end - here)) ≡ end - here = part_length room here (end - here) (omega arith) in
    let m : length (part room contents (here - contents)) ≡ here - contents = part_length room contents (here - contents) (omega arith) in
    let o : length (file ++ part room here (end - here)) ≡ length file + (end - here) = rw (length-append, n) in
    let second : two ≡ written room (here + 12) (file ++ part room here (end - here)) =
    then_before room one two file (part room here (end - here)) (here + 12) (here + 12 + length file) refl (omega arith) e f in
    let read : part two contents (here - contents) ≡ part room contents (here - contents) =
    rw second (part_before room (here + 12) (file ++ part room here (end - here)) contents (here - contents) (omega arith) (omega arith)) in
    then_before room two three (part room contents (here - contents)) (file ++ part room here (end - here)) (contents + 12) (here + 12) (omega arith)
    (omega arith) second (rw read at g)

-- the files before, the files behind, and zeros
pub closed_up : (room one two three : List ℕ) (contents here next end : ℕ) → 12 ≤ contents → contents ≤ here → here ≤ next → next ≤ end → end ≤ length room
    → one ≡ written room (contents - 12) (part room contents (here - contents))
    → two ≡ written one (here - 12) (part one next (end - next))
    → three ≡ written two (here - 12 + (end - next)) (replicate (next - here + 12) 0)
    → three ≡ written room (contents - 12) (part room contents (here - contents) ++ part room next (end - next) ++ replicate (next - here + 12) 0)
closed_up room one two three contents here next end g h i j k e f z =
    let n : length (part room contents (here - contents)) ≡ here - contents = part_length room contents (here - contents) (omega arith) in
    let m : length (part room next (end - next)) ≡ end - next = part_length room next (end - next) (omega arith) in
    let r : length {A = ℕ} (replicate (next - here + 12) 0) ≡ next - here + 12 = length-replicate (next - here + 12) 0 in
    let o : length (part room contents (here - contents) ++ part room next (end - next)) ≡ here - contents + (end - next) = rw (length-append, n, m) in
    let read : part one next (end - next) ≡ part room next (end - next) =
    rw e (part_behind room (contents - 12) (part room contents (here - contents)) next (end - next) (omega arith) (omega arith)) in
    let second : two ≡ written room (contents - 12) (part room contents (here - contents) ++ part room next (end - next)) =
    then_behind room one two (part room next (end - next)) (part room contents (here - contents)) (contents - 12) (here - 12) (omega arith) (omega arith) e
    (rw read at f) in
    then_behind room two three (replicate (next - here + 12) 0) (part room contents (here - contents) ++ part room next (end - next)) (contents - 12)
    (here - 12 + (end - next)) (omega arith) (omega arith) second z

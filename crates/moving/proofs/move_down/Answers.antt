use Rattle.std.proofs.Common.{◌≡◌, ◌+◌, ◌-◌, ◌*◌, ◌/◌, sym, arith}
use Rattle.moving.proofs.Written.{written_none, chunk_down}
use Rattle.moving.proofs.move_down.Goals as goal

pub loop-k-init : goal.loop-k-init
loop-k-init c = sym (written_none _ _)

pub loop-k-preserved : goal.loop-k-preserved
loop-k-preserved c =
    let s = c.args in
    let k = c.loop-k.k in
    let e : 4096 * (k + 1) ≡ 4096 * k + 4096 = omega arith in
    rw e (chunk_down s.room.now c.loop-k.room _ s.from s.to (4096 * k) 4096 (omega arith) (omega arith)
    c.loop-k.invariant c.move_through.ensures)

pub returns : goal.returns
returns c =
    let s = c.args in
    let i = 4096 * (s.count / 4096) in
    let e : i + (s.count - i) ≡ s.count = omega arith in
    let l : c.loop-k.k ≡ s.count / 4096 = omega arith in
    rw e at (chunk_down s.room.now c.loop-k.room _ s.from s.to i (s.count - i) (omega arith) (omega arith)
    (rw l at c.loop-k.invariant) c.move_through-2.ensures)

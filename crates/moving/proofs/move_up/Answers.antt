use Rattle.std.proofs.Common.{◌≡◌, ◌+◌, ◌-◌, ◌*◌, ◌/◌, ◌%◌, sym, arith}
use Rattle.moving.proofs.Written.{written_none, chunk_up, chunk_last}
use Rattle.moving.proofs.move_up.Goals as goal

pub loop-k-init : goal.loop-k-init
loop-k-init c =
    let n = c.args.count in
    let e : n - (n % 4096 + 4096 * (n / 4096)) ≡ 0 = omega arith in
    rw e (sym (written_none _ _))

pub loop-k-preserved : goal.loop-k-preserved
loop-k-preserved c =
    let s = c.args in
    let l = c.loop-k in
    let left = s.count % 4096 + 4096 * (l.k - 1) in
    let e : s.count % 4096 + 4096 * l.k ≡ left + 4096 = omega arith in
    let f : 4096 + (s.count - (left + 4096)) ≡ s.count - left = omega arith in
    rw f at (chunk_up s.room.now l.room _ s.from s.to left 4096 (s.count - (left + 4096)) (omega arith) (omega arith)
    (rw e at l.invariant) c.move_through.ensures)

pub returns : goal.returns
returns c =
    let s = c.args in
    let l = c.loop-k in
    let rest = s.count % 4096 in
    let e : rest + 4096 * l.k ≡ rest = omega arith in
    let f : rest + (s.count - rest) ≡ s.count = omega arith in
    rw f at (chunk_last s.room.now l.room _ s.from s.to rest (s.count - rest) (omega arith) (omega arith)
    (rw e at l.invariant) c.move_through-2.ensures)

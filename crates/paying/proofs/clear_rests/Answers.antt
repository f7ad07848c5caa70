use Rattle.std.proofs.Common.{◌≡◌, ◌+◌, ◌*◌, ◌-◌, ◌∙◌, arith, length, take, drop, length-take, length-drop}
use lib.Seq.{drop-drop}
use Rattle.limits.specs.Ranges.{day_payments}
use Rattle.paying.proofs.Payments.{room}
use Rattle.paying.proofs.Nothing.{cleared_is}
use Rattle.paying.proofs.clear_rests.Goals as goal

pub returns : goal.returns
returns c =
    let n = c.args.n in
    let table = c.args.payments.now in
    let at = day_payments * n in
    let many : at + day_payments - at ≡ day_payments = omega arith in
    let long : length (take day_payments (drop at table)) ≡ day_payments = omega (arith, c.requires, length-take day_payments (drop at table), length-drop at table) in
    let zeros : c.fill.new.self ≡ room day_payments = c.fill.ensures.after (λ z e. e) ∙ rw (many, long) in
    rw (many, zeros, drop-drop) (cleared_is n table day_payments (omega (arith, c.requires)))

use Rattle.std.proofs.Common.{below_more, arith, rules, get_or, take, ◌*◌}
use lib.IntN.{pos}
use Rattle.limits.specs.Ranges.{day_payments}
use Rattle.paying.proofs.Nothing.{joined_zero, zero_joined}
use Rattle.paying.proofs.nothing_collected.Goals as goal

pub loop-payment-preserved : goal.loop-payment-preserved
loop-payment-preserved c =
    let l = c.loop-payment in
    let payment = get_or (take (day_payments * c.args.n) c.args.payments.now) l.payment-index (pos 0) in
    record {
      only_if_zeros = λ e.
          let both = joined_zero l.joined-bits payment (search rules) (search rules) e in
          below_more _ _ (l.invariant.only_if_zeros both.0) both.1;
      if_zeros = λ zeros.
          zero_joined l.joined-bits payment (search rules) l.auto.joined (l.invariant.if_zeros (λ p below. zeros p (omega arith)))
          (zeros l.payment-index (omega arith));
    }

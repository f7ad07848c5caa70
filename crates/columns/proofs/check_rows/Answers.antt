-- A row that is refused is the answer, and each that is accepted keeps the running demand within its bound.
use Rattle.std.proofs.Common.{refl, ap, sym, arith, add-one}
use native.Mathlib.Nat.{sub-zero}
use Rattle.verdict.specs.Verdict.{number_of}
use Rattle.verdict.proofs.First.{handed_on, loop_next, loop_stop, or_second}
use Rattle.exact.specs.Total.{total}
use Rattle.exact.proofs.Totals.{total_next}
use Rattle.hour.proofs.Rules.{demand_kept}
use Rattle.columns.specs.Columns.{row_rule_at, rows_rule}
use Rattle.columns.proofs.check_rows.Goals as goal

pub loop-i-init : goal.loop-i-init
unfolding total
loop-i-init c = record { last = refl; so_far = refl; bounded = omega arith; rest = rw sub-zero }

pub returns-in_err-check_row : goal.returns-in_err-check_row
unfolding row_rule_at rows_rule
returns-in_err-check_row c =
    let l = c.loop-i.invariant in
    handed_on _ _ _ c.from_residual.ensures.1
    (loop_stop _ _ _ _ _ l.rest c.loop-i-test.true (sym (rw (l.last, l.so_far) at c.in_err-check_row.ensures)))

pub loop-i-preserved : goal.loop-i-preserved
unfolding row_rule_at
loop-i-preserved c =
    let l = c.loop-i.invariant in
    let accepted = sym (rw (l.last, l.so_far) at c.in_ok-check_row.ensures) in
    let n = total_next c.args.demands.now c.loop-i.i c.loop-i-test.true in
    let small = demand_kept _ _ _ (or_second _ _ (ap number_of (sym c.in_ok-check_row.ensures))) in record {
      last = rw add-one;
      so_far = rw l.so_far (sym n);
      bounded = small.1;
      rest = loop_next _ _ _ _ _ l.rest c.loop-i-test.true accepted;
    }

use Rattle.std.proofs.Common.{◌*◌, refl, sym, ap, ◌∙◌, arith, add-one}
use native.Mathlib.Nat.{suc-mul, zero-mul}
use Rattle.encoding.specs.Encoding.{encoded}
use Rattle.encoding.proofs.Encoding.{bytes_more, encoded_length}
use Rattle.body.specs.Layout.{coordinators_of}
use Rattle.amounts.proofs.Hours.{walk_on}
use Rattle.statement.specs.Block.{hour_numbers, hours_block}
use Rattle.statement.proofs.Hours.{hours_length, hours_more}
use Rattle.statement.proofs.write_area.Goals as goal

pub loop-h-init : goal.loop-h-init
unfolding hours_block encoded
loop-h-init c =
    record {
      start = rw (← c.word-load.ensures, ← c.word-count.ensures) c.first_hour-at.ensures;
      to = rw (zero-mul (hour_numbers _));
      written = refl;
    }

pub next_hour-at-requires : goal.next_hour-at-requires
next_hour-at-requires c =
    let l = c.loop-h in
    walk_on _ c.requires.terms_and_body.1 l.h (omega arith) _ l.invariant.start _ _ c.word-load.ensures c.word-count.ensures (omega arith)

pub loop-h-preserved : goal.loop-h-preserved
loop-h-preserved c =
    let a = c.args in
    let b = a.body.now in
    let l = c.loop-h in
    let v = l.invariant in
    let k = c.hour_numbers.ensures ∙ ap hour_numbers c.word-count.ensures in
    record {
      start = rw (← c.word-load.ensures, ← c.word-count.ensures) c.next_hour-at.ensures;
      to = omega (arith, v.to, k, rw (← add-one l.h) at (suc-mul l.h (hour_numbers (coordinators_of b))));
      written = rw k
          (bytes_more (hours_block a.terms b l.h) _ _ a.statement.now l.statement _ l.to (8 * hour_numbers (coordinators_of b))
          (hours_more a.terms b l.h)
          (encoded_length _ ∙ ap (λ n. 8 * n) (hours_length a.terms b c.requires.terms_and_body.1 l.h (omega arith)) ∙ sym v.to) v.written c.write_hour.ensures);
    }

use Rattle.std.proofs.Common.{◌<◌, ◌+◌, ◌*◌, ◌∙◌, ap₂, arith, length, get_or, length-set, below_more}
use Rattle.recording.specs.Record.{place}
use Rattle.record_words.proofs.Said.{others_stay, place_there}
use Rattle.record_words.proofs.words_of.Goals as goal

pub loop-k-preserved : goal.loop-k-preserved
loop-k-preserved c =
    let l = c.loop-k in
    let p = get_or c.args.given.places l.k (place 0 0) in
    let inside : 3 + 2 * l.k < length l.words = omega arith in
    let stay = others_stay l.words l.k p.area p.marks inside in
    record {
      length_is = simp length-set l.invariant.length_is;
      last = stay 0 (λ e. omega arith) (λ e. omega arith) ∙ l.invariant.last;
      held = stay 1 (λ e. omega arith) (λ e. omega arith) ∙ l.invariant.held;
      places =
          below_more _ _
          (λ j h. ap₂ place (stay (2 + 2 * j) (λ e. omega arith) (λ e. omega arith)) (stay (3 + 2 * j) (λ e. omega arith) (λ e. omega arith))
          ∙ l.invariant.places j h)
          (place_there l.words l.k p.area p.marks inside);
    }

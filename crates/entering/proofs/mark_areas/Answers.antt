use Rattle.std.proofs.Common.{◌≡◌, ◌+◌, ◌-◌, ◌^◌, ◌∙◌, sym, ap, arith}
use native.Mathlib.Nat.{add_assoc}
use Rattle.limits.specs.Ranges.{recorded_days}
use Rattle.contents.specs.File.{number_at, body_at}
use Rattle.marking.specs.Marked.{marked_in, marked_from}
use Rattle.marking.proofs.MarkedAreas.{next_marked, next_unmarked, rest_marked}
use Rattle.recording.specs.Record.{entries, marked_all, answered}
use Rattle.recording.proofs.AllMarked.{none_yet, still_sound, passed_over, none_marked, one_marked, all_marked}
use Rattle.entering.proofs.mark_areas.Goals as goal
use Rattle.entering.proofs.mark_areas.Goals.{then-marked+in_ok-so_far, else-marked}

pub loop-k-init : goal.loop-k-init
unfolding marked_from
loop-k-init c = none_yet (2 ^ recorded_days) c.args.given c.requires.0

pub mark-requires : goal.mark-requires
mark-requires c =
    let l = c.loop-k in
    still_sound c.args.given (marked_from c.args.file.now 0 l.k) (2 ^ recorded_days + l.k) l.so_far l.invariant 4294967295 (omega arith)
    (omega (arith, c.requires.1.few))

pub returns-in_err-so_far : goal.returns-in_err-so_far
returns-in_err-so_far c =
    let l = c.loop-k in
    let f = c.args.file.now in
    let looked : c.marked.result ≡ marked_in (body_at f l.k) = c.marked.ensures ∙ ap marked_in c.body_at.ensures.0 in
    let one = next_marked f l.k (sym looked ∙ c.if-marked.true) in
    let whole = rest_marked f (l.k + 1) c.args.n (omega arith) in
    c.from_residual.ensures
    ∙ none_marked c.args.given (marked_from f 0 l.k) (2 ^ recorded_days + l.k) l.so_far l.invariant (number_at f l.k) c.mark.result
    (c.mark.ensures ∙ rw c.word.ensures) c.in_err-so_far.was (marked_from f (l.k + 1) (c.args.n - (l.k + 1)))
    ∙ ap (λ areas. answered c.args.given.last (marked_all areas (entries c.args.given))) (sym (rw one at whole))

pub loop-k-preserved : goal.loop-k-preserved
loop-k-preserved c =
    let l = c.loop-k in
    let f = c.args.file.now in
    let r = c.args.given in
    let looked : c.marked.result ≡ marked_in (body_at f l.k) = c.marked.ensures ∙ ap marked_in c.body_at.ensures.0 in
    rw (← add_assoc (2 ^ recorded_days) l.k 1)
    (elim c.if-marked.branch [
      | then-marked+in_ok-so_far w ↦ rw (next_marked f l.k (sym looked ∙ w.if-marked.true), w.so_far-is)
          (one_marked r (marked_from f 0 l.k) (2 ^ recorded_days + l.k) l.so_far l.invariant (number_at f l.k) w.mark.result
          (w.mark.ensures ∙ rw w.word.ensures) (omega arith) w.in_ok-so_far.so_far w.in_ok-so_far.was)
      | else-marked w ↦ rw (next_unmarked f l.k (sym looked ∙ w.if-marked.false), w.so_far-is)
          (passed_over r (marked_from f 0 l.k) (2 ^ recorded_days + l.k) l.so_far l.invariant)
    ])

pub returns : goal.returns
returns c =
    let l = c.loop-k in
    let e : l.k ≡ c.args.n = omega arith in
    rw (← e) (all_marked c.args.given (marked_from c.args.file.now 0 l.k) _ l.so_far l.invariant)

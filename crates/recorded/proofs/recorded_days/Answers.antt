use Rattle.std.proofs.Common.{◌≡◌, ℕ, ◌<◌, length, get_or, set, length-set, get_or-set_same, get_or-set_other, ap, ◌∙◌, below_more, arith}
use Rattle.contents.specs.File.{number_at}
use Rattle.marks.specs.Marks.{counted}
use Rattle.recording.specs.Record.{entries, marks_of}
use Rattle.settlement.proofs.Areas.{placed}
use Rattle.recorded.proofs.recorded_days.Goals as goal

pub word-requires : goal.word-requires
word-requires c = omega (arith, (placed _ c.requires.0 c.loop-k.k (omega (arith, c.requires.1, c.loop-k-test.true))).0)

pub bounds-days-k : goal.bounds-days-k
bounds-days-k c = omega (arith, c.requires.0.few, c.requires.1, c.loop-k-test.true, c.loop-k.invariant.room)

pub loop-k-preserved : goal.loop-k-preserved
loop-k-preserved c =
    let l = c.loop-k in
    let held = entries c.args.given in
    let of : ℕ → ℕ = λ j. counted (marks_of (number_at c.args.file.now j) held) c.args.g in
    let inside : l.k < length l.days = omega (arith, l.invariant.room, c.requires.0.few, c.requires.1, c.loop-k-test.true) in
    let here = c.count.ensures ∙ ap (λ m. counted m c.args.g) (c.marks_of-marks.ensures ∙ ap (λ a. marks_of a held) c.word.ensures) in
    record {
      room = simp length-set l.invariant.room;
      counted = below_more (λ j. get_or (set l.days l.k c.count.result) j 0 ≡ of j) l.k
          (λ j h. get_or-set_other l.days l.k j _ 0 (λ e. omega arith) ∙ l.invariant.counted j h)
          (get_or-set_same l.days l.k _ 0 inside ∙ here);
    }

pub returns : goal.returns
returns c = λ k h. c.loop-k.invariant.counted k (omega (arith, c.requires.1))

use Rattle.std.proofs.Common.{◌≡◌, ℕ, ◌-◌, List, length, drop, take, sym, ap, ◌∙◌, length-drop, arith}
use lib.Seq.{take-length}
use Rattle.limits.specs.Editions.{most_held}
use Rattle.recording.specs.declared.Place.{Place}
use Rattle.recording.specs.Record.{place}
use Rattle.recording.proofs.Lists.{length_mapped}
use Rattle.record_check.specs.Left.{unused_empty}
use Rattle.record_check.proofs.Left.{unused_stop, unused_next, unused_done}
use Rattle.record_check.proofs.unused_empty.Goals as goal

-- the places from one on to the last are those behind it
to_the_last : (most held : ℕ) (l : List Place) → length l ≡ most → take (most - held) (drop held l) ≡ drop held l
to_the_last most held l full =
    let long : length (drop held l) ≡ most - held = length-drop held l ∙ ap (λ n. n - held) full in
    ap (λ n. take n (drop held l)) (sym long) ∙ take-length (drop held l)

pub returns-then-not-place_empty : goal.returns-then-not-place_empty
returns-then-not-place_empty c =
    let r = c.args.given in
    let full : length r.places ≡ most_held = search length_mapped in
    unused_stop _ _ (place 0 0) _ c.loop-p-test.true c.loop-p.invariant (sym c.place_empty.ensures ∙ c.if-not-place_empty.true)
    ∙ ap unused_empty (to_the_last _ r.held r.places (omega (arith, full)))

pub loop-p-preserved : goal.loop-p-preserved
loop-p-preserved c =
    unused_next _ _ (place 0 0) _ c.loop-p-test.true c.loop-p.invariant (sym c.place_empty.ensures ∙ c.if-not-place_empty.false)

pub returns : goal.returns
returns c =
    let r = c.args.given in
    let full : length r.places ≡ most_held = search length_mapped in
    unused_done _ _ _ c.loop-p-test.false c.loop-p.invariant ∙ ap unused_empty (to_the_last _ r.held r.places (omega (arith, full)))

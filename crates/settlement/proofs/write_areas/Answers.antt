use Rattle.std.proofs.Common.{◌≡◌, ℕ, ◌+◌, ◌-◌, ◌≤◌, ◌<◌, List, ◌++◌, ℤ, length, take, drop, refl, sym, ap, ◌∙◌, length-take, length-drop, arith}
use borrow.Rule.Slice.PartMut.{put_mid}
use Rattle.exact.proofs.Lending.{lent_back}
use Rattle.body.specs.Layout.{coordinators_of}
use Rattle.contents.specs.File.{areas_of, body_at}
use Rattle.statement.specs.Block.{area_numbers, block}
use Rattle.settlement.specs.Settlement.{needed_to, terms_at, statement_to, listed}
use Rattle.settlement.proofs.Areas.{needed_more, needed_within, statement_more, statement_length, area_few, needed_small}
use Rattle.settlement.proofs.Accepted.{terms_there}
use Rattle.settlement.proofs.write_areas.Goals as goal

-- what an area's turn leaves: its block stands behind those before it
step : (days : ℕ → ℕ) (file : List ℕ) (k to m : ℕ) (before xs more : List ℤ) → length (statement_to days file k) ≡ to
    → xs ≡ statement_to days file k ++ drop to before → more ≡ block (terms_at days file k) (body_at file k) ++ drop m (take (length xs - to) (drop to xs))
    → put_mid to (length xs - to) xs more ≡ statement_to days file (k + 1) ++ drop (to + m) before
step days file k to m before xs more long stands came =
    lent_back (statement_to days file k) before (block (terms_at days file k) (body_at file k)) xs more to m long stands came
    ∙ ap (λ w. w ++ drop (to + m) before) (sym (statement_more file days k))

-- the part of area k lies within the statement
room : (file : List ℕ) (n k to long before : ℕ) → to ≡ needed_to file k → long ≡ before → k < n → needed_to file n ≤ before
    → to + area_numbers (coordinators_of (body_at file k)) ≤ long
room file n k to long before next same below fits = omega (arith, needed_within file k n below)

pub loop-k-init : goal.loop-k-init
unfolding needed_to statement_to
loop-k-init c = record { next = refl; written = refl; same_length = refl; room = refl }

pub offset_bounds-statement-to : goal.offset_bounds-statement-to
offset_bounds-statement-to c =
    let l = c.loop-k in
    let fits = room _ _ l.k _ _ _ l.invariant.next l.invariant.same_length c.loop-k-test.true c.requires.blocks_fit in
    omega arith

pub slice_bounds-area_into_numbers-count : goal.slice_bounds-area_into_numbers-count
slice_bounds-area_into_numbers-count c =
    let l = c.loop-k in
    let fits = room _ _ l.k _ _ _ l.invariant.next l.invariant.same_length c.loop-k-test.true c.requires.blocks_fit in
    omega arith

pub slice_bounds-area_into_numbers-start : goal.slice_bounds-area_into_numbers-start
slice_bounds-area_into_numbers-start c =
    let l = c.loop-k in
    let fits = room _ _ l.k _ _ _ l.invariant.next l.invariant.same_length c.loop-k-test.true c.requires.blocks_fit in
    omega arith

pub area_into_numbers-requires-clause-rooms_long_enough : goal.area_into_numbers-requires-clause-rooms_long_enough
area_into_numbers-requires-clause-rooms_long_enough c =
    let l = c.loop-k in
    let fits = room _ _ l.k _ _ _ l.invariant.next l.invariant.same_length c.loop-k-test.true c.requires.blocks_fit in
    (omega (arith, l.invariant.room), rw c.body_at-body.ensures.0 (simp (length-take, length-drop) (omega arith)))

pub overflow_add-to : goal.overflow_add-to
overflow_add-to c =
    let sound = c.requires.settleable.0.sound in
    let l = c.loop-k in
    let below : l.k < areas_of c.args.file.now = omega (arith, c.requires.settleable.1.0, c.loop-k-test.true) in
    let count = c.word.ensures ∙ ap coordinators_of c.body_at-body.ensures.0 in
    let few = area_few _ sound l.k below in
    let to = needed_small _ sound l.k (omega (arith, below)) in
    omega (arith, l.invariant.next, to, sound.few, below, c.area_numbers-to.ensures, count, few)

pub loop-k-preserved : goal.loop-k-preserved
loop-k-preserved c =
    let a = c.args in
    let f = a.file.now in
    let l = c.loop-k in
    let settleable = c.requires.settleable in
    let body = c.body_at-body.ensures.0 in
    let terms = terms_there a.days.now f _ _ _ _ c.terms_of-terms.ensures settleable.1.1 body in
    let count = c.word.ensures ∙ ap coordinators_of body in
    let m = c.area_numbers-to.ensures ∙ ap area_numbers count in
    let long = statement_length f settleable.0.sound (listed a.days.now f) l.k (omega (arith, settleable.1.0, c.loop-k-test.true)) in
    record {
      next = rw m (omega (arith, needed_more f l.k, l.invariant.next));
      written = rw m
          (step (listed a.days.now f) f l.k l.to (area_numbers (coordinators_of (body_at f l.k))) a.statement.now l.statement _
          (long ∙ sym l.invariant.next) l.invariant.written (rw (terms, body) at c.area_into_numbers.ensures));
      same_length = omega arith;
      room = omega arith;
    }

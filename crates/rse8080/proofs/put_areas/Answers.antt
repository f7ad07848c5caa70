use Rattle.std.proofs.Common.{◌≡◌, ℕ, ◌+◌, ◌*◌, ◌≤◌, ◌<◌, List, length-take, length-drop, refl, sym, ap, ap₂, ◌∙◌, arith}
use Rattle.encoding.specs.Encoding.{encoded}
use Rattle.encoding.proofs.Encoding.{bytes_more, encoded_length}
use Rattle.body.specs.Layout.{days_of, coordinators_of}
use Rattle.contents.specs.File.{areas_of, body_at}
use Rattle.surcharge.specs.declared.Terms.{Terms}
use Rattle.statement.specs.Block.{area_numbers}
use Rattle.settlement.specs.Settlement.{needed_to, terms_at, statement_to, days_by, own_days}
use Rattle.settlement.proofs.Areas.{needed_more, needed_within, statement_more, statement_length, area_few, needed_small}
use Rattle.rse8080.proofs.put_areas.Goals as goal

-- the part of area k lies within the statement
room : (file : List ℕ) (k to long before : ℕ) → to ≡ 8 * needed_to file k → long ≡ before → k < areas_of file
    → 8 * needed_to file (areas_of file) ≤ before → to + 8 * area_numbers (coordinators_of (body_at file k)) ≤ long
room file k to long before next same below fits = omega (arith, needed_within file k (areas_of file) below)

own_terms : (file : List ℕ) (k peak days : ℕ) → peak ≡ (terms_at (days_by own_days file) file k).peak → days ≡ days_of (body_at file k)
    → ◌≡◌ {A = Terms} (record { peak = peak; days = days }) (terms_at (days_by own_days file) file k)
own_terms file k peak days e f = ap₂ (λ (p d : ℕ). record { peak = p; days = d }) e f

pub loop-k-init : goal.loop-k-init
unfolding needed_to statement_to encoded
loop-k-init c = record { next = refl; written = refl; same_length = refl }

pub slice_bounds-write_area-count : goal.slice_bounds-write_area-count
slice_bounds-write_area-count c =
    let l = c.loop-k in
    let fits = room c.args.file.now l.k _ _ _ l.invariant.next l.invariant.same_length (omega (arith, c.word-n.ensures, c.loop-k-test.true)) c.requires.blocks_fit in
    omega arith

pub slice_bounds-write_area-start : goal.slice_bounds-write_area-start
slice_bounds-write_area-start c =
    let l = c.loop-k in
    let fits = room c.args.file.now l.k _ _ _ l.invariant.next l.invariant.same_length (omega (arith, c.word-n.ensures, c.loop-k-test.true)) c.requires.blocks_fit in
    omega arith

pub write_area-requires-clause-area_fits : goal.write_area-requires-clause-area_fits
write_area-requires-clause-area_fits c =
    let l = c.loop-k in
    let fits = room c.args.file.now l.k _ _ _ l.invariant.next l.invariant.same_length (omega (arith, c.word-n.ensures, c.loop-k-test.true)) c.requires.blocks_fit in
    rw c.body_at-body.ensures.0 (simp (length-take, length-drop) (omega arith))

pub overflow_add-to : goal.overflow_add-to
overflow_add-to c =
    let l = c.loop-k in
    let f = c.args.file.now in
    let sound = c.requires.sound_file.0 in
    let below : l.k < areas_of f = omega (arith, c.word-n.ensures, c.loop-k-test.true) in
    let count = c.word-in-loop-k.ensures ∙ ap coordinators_of c.body_at-body.ensures.0 in
    let few = area_few f sound l.k below in
    let to = needed_small f sound l.k (omega (arith, below)) in
    omega (arith, l.invariant.next, to, sound.few, below, c.area_numbers.ensures, count, few)

pub loop-k-preserved : goal.loop-k-preserved
loop-k-preserved c =
    let f = c.args.file.now in
    let l = c.loop-k in
    let body = c.body_at-body.ensures.0 in
    let terms = own_terms f l.k _ _ c.word-peak.ensures (c.word.ensures ∙ ap days_of body) in
    let count = c.word-in-loop-k.ensures ∙ ap coordinators_of body in
    let m = c.area_numbers.ensures ∙ ap area_numbers count in
    let below : l.k ≤ areas_of f = omega (arith, c.word-n.ensures, c.loop-k-test.true) in
    let long = statement_length f c.requires.sound_file.0 (days_by own_days f) l.k below in
    record {
      next = rw m (omega (arith, needed_more f l.k, l.invariant.next));
      written = rw m
          (bytes_more (statement_to (days_by own_days f) f l.k) _ _ c.args.bytes.now l.bytes _ l.to
          (8 * area_numbers (coordinators_of (body_at f l.k))) (statement_more f (days_by own_days f) l.k)
          (encoded_length _ ∙ ap (λ n. 8 * n) long ∙ sym l.invariant.next) l.invariant.written
          (rw (terms, body) at c.write_area.ensures));
      same_length = omega arith;
    }

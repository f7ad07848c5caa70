use Rattle.std.proofs.Common.{sym, ◌∙◌, le-leb}
use borrow.Author.Tests.{lt-leb}
use Rattle.record_check.specs.Left.{record_left}
use Rattle.record_check.proofs.Left.{last_kept}
use Rattle.record_check.proofs.record_left.Goals as goal

pub returns-then-given : goal.returns-then-given
unfolding record_left
returns-then-given c = simp (lt-leb _ _ c.if-given.true)

pub returns-then-not-last_left : goal.returns-then-not-last_left
unfolding record_left
returns-then-not-last_left c = simp (le-leb _ _ c.if-given.false, sym c.last_left.ensures ∙ c.if-not-last_left.true)

pub last_number-requires : goal.last_number-requires
last_number-requires c = (last_kept c.args.given (sym c.last_left.ensures ∙ c.if-not-last_left.false)).real

pub returns-then-not-places_left : goal.returns-then-not-places_left
unfolding record_left
returns-then-not-places_left c =
    let few = le-leb _ _ c.if-given.false in
    let day = sym c.last_left.ensures ∙ c.if-not-last_left.false in
    let places = rw (c.marks_end.ensures, c.last_number.ensures) at c.places_left.ensures in
    simp (few, day, sym places ∙ c.if-not-places_left.true)

pub returns : goal.returns
unfolding record_left
returns c =
    let few = le-leb _ _ c.if-given.false in
    let day = sym c.last_left.ensures ∙ c.if-not-last_left.false in
    let places = rw (c.marks_end.ensures, c.last_number.ensures) at c.places_left.ensures in
    simp (few, day, sym places ∙ c.if-not-places_left.false) c.unused_empty.ensures

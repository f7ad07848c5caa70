use Rattle.std.proofs.Common.{ap, ◌∙◌, le-leb, arith}
use borrow.Author.Tests.{lt-leb}
use Rattle.std.specs.Prelude.{Err}
use Rattle.verdict.specs.declared.Refusal.TheVariants.{RoomTooShort}
use Rattle.settlement.specs.Settlement.{needed_to, numbers_needed, accepted_rule}
use Rattle.settlement.proofs.answer_accepted.Goals as goal

pub returns-then-room-needed : goal.returns-then-room-needed
unfolding accepted_rule
returns-then-room-needed c =
    let s = c.args in
    let needed = c.numbers_needed-needed.ensures ∙ ap (needed_to s.file.now) c.word-n.ensures in
    rw (lt-leb (numbers_needed s.file.now) s.room (omega (arith, needed, c.if-room-needed.true))) (ap (λ n. Err (RoomTooShort n)) needed)

pub returns : goal.returns
unfolding accepted_rule
returns c =
    let s = c.args in
    let needed = c.numbers_needed-needed.ensures ∙ ap (needed_to s.file.now) c.word-n.ensures in
    c.check_areas.ensures ∙ rw (le-leb (numbers_needed s.file.now) s.room (omega (arith, needed, c.if-room-needed.false)))

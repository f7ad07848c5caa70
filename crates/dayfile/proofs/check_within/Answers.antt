use Rattle.std.proofs.Common.{◌≡◌, ℕ, ◌%◌, ◌≤◌, true, List, length, sym, ap, ◌∙◌, le-leb, rules, arith}
use Rattle.words.specs.Word.{word_at}
use Rattle.limits.specs.declared.Limits.{Limits}
use Rattle.limits.specs.Editions.{bytes_allowed}
use Rattle.verdict.specs.Verdict.{number_of}
use Rattle.verdict.specs.First.{◌or_else◌}
use Rattle.verdict.proofs.First.{handed_on_in}
use Rattle.verdict.proofs.Tests.{tests}
use Rattle.dayfile.specs.Check.{file_head_of, contents_rule, bodies_rule, check_within}
use Rattle.dayfile.proofs.Facts.{head_kept}
use Rattle.dayfile.proofs.check_within.Goals as goal

-- what is left of the check past its tests of the length
opened : (limits : Limits) (file : List ℕ) → 16 ≤ length file → bytes_allowed limits (length file) ≡ true → length file % 4 ≡ 0
    → check_within limits file
    ≡ (file_head_of limits.areas file or_else contents_rule limits.words file (word_at file 2) or_else bodies_rule limits file (word_at file 2))
unfolding check_within
opened limits file long allowed whole = rw (le-leb 16 (length file) long, allowed, whole)

pub returns-then-not-allows-clause-answer_value : goal.returns-then-not-allows-clause-answer_value
unfolding check_within
returns-then-not-allows-clause-answer_value c =
    let no = sym c.allows.ensures ∙ c.if-not-allows.true in
    search (tests, no, rules)

pub returns-then-file-ne0-clause-answer_value : goal.returns-then-file-ne0-clause-answer_value
unfolding check_within
returns-then-file-ne0-clause-answer_value c =
    let yes = sym c.allows.ensures ∙ c.if-not-allows.false in
    search (tests, yes, rules)

pub returns-in_err-head-clause-answer_value : goal.returns-in_err-head-clause-answer_value
unfolding ◌or_else◌
returns-in_err-head-clause-answer_value c =
    let whole = opened c.args.limits c.args.file.now c.requires.1 (sym c.allows.ensures ∙ c.if-not-allows.false) c.if-file-ne0.false in
    handed_on_in _ _ _ c.from_residual.ensures.1 (rw (whole, ← c.in_err-head.ensures))

pub contents-requires : goal.contents-requires
contents-requires c =
    let head = head_kept _ _ (ap number_of (sym c.in_ok-head.ensures)) in
    omega (arith, head.room, c.word-n.ensures)

pub returns-in_err-contents-clause-answer_value : goal.returns-in_err-contents-clause-answer_value
unfolding ◌or_else◌
returns-in_err-contents-clause-answer_value c =
    let whole = opened c.args.limits c.args.file.now c.requires.1 (sym c.allows.ensures ∙ c.if-not-allows.false) c.if-file-ne0.false in
    handed_on_in _ _ _ c.from_residual-in_err-contents.ensures.1
    (rw (whole, ← c.in_ok-head.ensures, ← c.word-n.ensures, ← c.in_err-contents.ensures))

pub bodies-requires-clause-proved : goal.bodies-requires-clause-proved
bodies-requires-clause-proved c =
    let head = head_kept _ _ (ap number_of (sym c.in_ok-head.ensures)) in
    (c.requires.0, omega (arith, head.few, c.word-n.ensures, c.requires.0.areas))

pub bodies-requires-clause-contents_accepted : goal.bodies-requires-clause-contents_accepted
bodies-requires-clause-contents_accepted c =
    let head = head_kept _ _ (ap number_of (sym c.in_ok-head.ensures)) in
    (omega (arith, head.some, c.word-n.ensures), (omega (arith, head.room, c.word-n.ensures), ap number_of (sym c.in_ok-contents.ensures)))

pub returns-clause-answer_value : goal.returns-clause-answer_value
unfolding ◌or_else◌
returns-clause-answer_value c =
    let whole = opened c.args.limits c.args.file.now c.requires.1 (sym c.allows.ensures ∙ c.if-not-allows.false) c.if-file-ne0.false in
    c.bodies.ensures.answer_value
    ∙ rw (whole, ← c.in_ok-head.ensures, ← c.word-n.ensures, ← c.in_ok-contents.ensures)

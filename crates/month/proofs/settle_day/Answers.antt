-- A day that its check refuses takes no numbers; any other is settled under its own d, and takes the numbers needed.
use Rattle.std.proofs.Common.{◌≡◌, ◌∙◌, ap, sym, length, arith}
use Rattle.verdict.specs.Verdict.{number_of}
use Rattle.verdict.proofs.Accepted.{no_refusal_is_zero}
use Rattle.verdict.proofs.First.{seq_stop}
use Rattle.dayfile.specs.Check.{check_of}
use Rattle.settlement.specs.Settlement.{needed_to, after}
use Rattle.settlement.proofs.Accepted.{opened, sound_file, own_settleable, past_check}
use Rattle.month_rules.proofs.OneDay.{taken_none, taken_needed, day_refused, day_length}
use Rattle.month.proofs.settle_day.Goals as goal

pub returns-in-Err-clause-answer_value : goal.returns-in-Err-clause-answer_value
returns-in-Err-clause-answer_value c =
    seq_stop _ _ _ _ (opened c.args.file.now (length c.args.statement.now)) (sym c.in-Err.ensures.answer_value)

pub returns-in-Err-clause-numbers_value : goal.returns-in-Err-clause-numbers_value
returns-in-Err-clause-numbers_value c =
    let bad : number_of (check_of c.args.file.now) ≡ 0 → ⊥ =
    λ q. no_refusal_is_zero _ (ap number_of c.in-Err.ensures.answer_value ∙ q) in
    omega (arith, taken_none c.args.file.now bad)

pub returns-in-Err-clause-statement_after : goal.returns-in-Err-clause-statement_after
returns-in-Err-clause-statement_after c =
    let rule = opened c.args.file.now (length c.args.statement.now) in
    let is = seq_stop _ _ _ _ rule (sym c.in-Err.ensures.answer_value) in
    sym (day_refused c.args.file.now c.args.statement.now (λ q. no_refusal_is_zero _ (ap number_of is ∙ q)))

-- ---- past the check

pub word-requires : goal.word-requires
word-requires c = omega (arith, (sound_file c.args.file.now (ap number_of (sym c.in-Ok.ensures.answer_value))).room)

pub numbers_needed-needed-requires : goal.numbers_needed-needed-requires
numbers_needed-needed-requires c = (sound_file _ (ap number_of (sym c.in-Ok.ensures.answer_value)), c.word.ensures)

pub settle_accepted-answer-requires : goal.settle_accepted-answer-requires
settle_accepted-answer-requires c =
    (own_settleable _ (ap number_of (sym c.in-Ok.ensures.answer_value)), c.in-Ok.ensures.plain_told)

pub returns-clause-answer_value : goal.returns-clause-answer_value
returns-clause-answer_value c =
    let accepted = ap number_of (sym c.in-Ok.ensures.answer_value) in
    let settled = c.settle_accepted-answer.ensures in
    (past_check c.args.file.now c.args.statement.now _ _ accepted settled.value settled.statement_after).0

pub returns-clause-numbers_value : goal.returns-clause-numbers_value
returns-clause-numbers_value c =
    let file = c.args.file.now in
    let xs = c.args.statement.now in
    let accepted = ap number_of (sym c.in-Ok.ensures.answer_value) in
    let settled = c.settle_accepted-answer.ensures in
    let done = past_check file xs _ _ accepted settled.value settled.statement_after in
    let long = ap length (done.1 ∙ ap (λ v. after v file xs) done.0) ∙ day_length file xs in
    let needed =
    c.numbers_needed-needed.ensures ∙ ap (needed_to file) c.word.ensures ∙ sym (taken_needed file accepted) in
    grind (arith, long, needed)

pub returns-clause-statement_after : goal.returns-clause-statement_after
returns-clause-statement_after c =
    let file = c.args.file.now in
    let xs = c.args.statement.now in
    let accepted = ap number_of (sym c.in-Ok.ensures.answer_value) in
    let settled = c.settle_accepted-answer.ensures in
    let done = past_check file xs _ _ accepted settled.value settled.statement_after in
    done.1 ∙ ap (λ v. after v file xs) done.0

-- A refusal leaves both as they were; else the days of a sound book are settled, and the table has a place for each.
use Rattle.std.proofs.Common.{◌∙◌, ◌++◌, refl, ap, sym, length, drop, arith}
use Rattle.std.proofs.lemmas.Result.{err_from_is_err_and}
use Rattle.verdict.specs.Verdict.{number_of}
use Rattle.verdict.proofs.Accepted.{no_refusal_is_zero}
use Rattle.book.specs.Read.{days_of}
use Rattle.book.proofs.Kept.{sound_book}
use Rattle.month_rules.specs.Month.{places_of}
use Rattle.month_rules.proofs.Rule.{checked, places_enough, statement_stays, statement_settled, table_stays, table_told}
use Rattle.month.proofs.settle_month.Goals as goal

pub returns-in_err-admit-clause-statement_after : goal.returns-in_err-admit-clause-statement_after
returns-in_err-admit-clause-statement_after c =
    let left = err_from_is_err_and _ c.from_residual.ensures.1 in
    sym (statement_stays _ _ c.args.statement.now (λ q. no_refusal_is_zero _ (ap number_of (sym left.1) ∙ q)))

pub returns-in_err-admit-clause-table_after : goal.returns-in_err-admit-clause-table_after
returns-in_err-admit-clause-table_after c =
    let left = err_from_is_err_and _ c.from_residual.ensures.1 in
    sym (table_stays _ _ _ c.args.table.now (λ q. no_refusal_is_zero _ (ap number_of (sym left.1) ∙ q)))

pub word-n-requires : goal.word-n-requires
word-n-requires c = omega (arith, (sound_book _ (checked _ _ (ap number_of (sym c.in_ok-admit.ensures)))).whole)

pub settle_days-requires : goal.settle_days-requires
settle_days-requires c =
    let passed = ap number_of (sym c.in_ok-admit.ensures) in
    (sound_book _ (checked _ _ passed), (c.word-n.ensures, omega (arith, c.word-n.ensures, places_enough _ _ passed)))

pub returns-clause-statement_after : goal.returns-clause-statement_after
returns-clause-statement_after c =
    c.settle_days.ensures.statement_after ∙ sym (statement_settled _ _ c.args.statement.now refl)

pub returns-clause-table_after : goal.returns-clause-table_after
returns-clause-table_after c =
    let places = places_of (length c.args.statement.now) (days_of c.args.book.now) in
    let told = ap (λ n. places ++ drop n c.args.table.now) c.word-n.ensures in
    c.settle_days.ensures.table_after ∙ told ∙ sym (table_told _ _ _ c.args.table.now refl)

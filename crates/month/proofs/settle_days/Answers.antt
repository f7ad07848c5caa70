-- A turn settles a day into the part of the statement behind those before it, and after the last turn all are settled.
use Rattle.std.proofs.Common.{◌≡◌, ◌∙◌, ◌+◌, ◌-◌, ◌++◌, ap, sym, take, drop, arith}
use lib.ListN.{take-append-drop}
use Rattle.verdict.specs.Verdict.{coded}
use Rattle.exact.proofs.Filling.{fill_end}
use Rattle.book.specs.Read.{day_at, days_from}
use Rattle.settlement.proofs.Places.{place_coded}
use Rattle.month_rules.specs.Month.{places_of}
use Rattle.month_rules.proofs.Days.{none_settled, file_is, days_next, days_done}
use Rattle.month_rules.proofs.Days.{Turn, length_turn, inside_turn, statement_turn, table_turn}
use Rattle.month.proofs.settle_days.Goals as goal

pub code-requires : goal.code-requires
code-requires c = place_coded _ _ _ c.settle_day-part.ensures.answer_value

pub loop-i-preserved : goal.loop-i-preserved
loop-i-preserved c =
    let book = c.args.book.now in
    let l = c.loop-i in
    let day = c.settle_day-part in
    let turn : Turn (day_at book l.i) c.file_at.result.now l.statement day.new.statement l.to day.result.numbers =
    record {
      is = c.file_at.ensures ∙ sym (file_is book l.i);
      inside = l.invariant.inside;
      settled = day.ensures.statement_after;
      clipped = day.ensures.numbers_value;
    } in
    let rest = days_from book (l.i + 1) (c.args.n - (l.i + 1)) in
    let next = days_next book l.i c.args.n c.loop-i-test.true in
    let place = c.code.ensures ∙ ap coded day.ensures.answer_value in record {
      inside = inside_turn turn;
      long = length_turn turn ∙ l.invariant.long;
      settled = statement_turn turn rest _ (rw next at l.invariant.settled);
      told = table_turn turn _ _ _ rest l.i _ place (rw next at l.invariant.told)
          (omega (arith, l.invariant.told.kept));
    }

pub returns-clause-statement_after : goal.returns-clause-statement_after
returns-clause-statement_after c =
    let l = c.loop-i in
    let done = days_done c.args.book.now l.i c.args.n c.loop-i-test.false in
    let stays = ap (λ xs. take l.to l.statement ++ xs) (none_settled (drop l.to l.statement)) in
    sym (take-append-drop l.to l.statement) ∙ sym stays ∙ rw done at l.invariant.settled

pub returns-clause-table_after : goal.returns-clause-table_after
unfolding places_of
returns-clause-table_after c =
    let l = c.loop-i in
    let done = days_done c.args.book.now l.i c.args.n c.loop-i-test.false in
    let e : l.i ≡ c.args.n = omega arith in
    rw (← e) (fill_end (rw done at l.invariant.told))

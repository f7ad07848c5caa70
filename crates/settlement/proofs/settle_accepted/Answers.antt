use Rattle.std.proofs.Common.{refl, sym, ap, ◌∙◌, length}
use Rattle.verdict.specs.Verdict.{number_of}
use Rattle.verdict.proofs.Accepted.{refuses}
use Rattle.settlement.specs.Settlement.{listed}
use Rattle.settlement.proofs.Accepted.{refused, settled}
use Rattle.settlement.proofs.Room.{needed_fits}
use Rattle.settlement.proofs.settle_accepted.Goals as goal

pub returns-in_err-answer_accepted-clause-statement_after : goal.returns-in_err-answer_accepted-clause-statement_after
returns-in_err-answer_accepted-clause-statement_after c =
    let s = c.args in
    refused (listed s.days.now s.file.now) s.file.now _ s.statement.now (refuses _ c.from_residual.ensures.0)

pub write_areas-requires-clause-blocks_fit : goal.write_areas-requires-clause-blocks_fit
write_areas-requires-clause-blocks_fit c =
    let f = c.args.file.now in
    let accepted = ap number_of (sym c.in_ok-answer_accepted.ensures) in
    rw c.word-n.ensures (needed_fits (listed c.args.days.now f) f (length c.args.statement.now) accepted)

pub returns-clause-statement_after : goal.returns-clause-statement_after
returns-clause-statement_after c =
    let s = c.args in
    c.write_areas.ensures ∙ rw c.word-n.ensures (settled (listed s.days.now s.file.now) s.file.now _ s.statement.now refl)

use Rattle.std.proofs.Common.{sym, ap, length}
use Rattle.verdict.specs.Verdict.{number_of}
use Rattle.verdict.proofs.Accepted.{refuses}
use Rattle.verdict.proofs.First.{handed_on, seq_stop}
use Rattle.settlement.specs.Settlement.{days_by, own_days}
use Rattle.settlement.proofs.Accepted.{opened, own_settleable, refused, past_check}
use Rattle.settlement.proofs.settle.Goals as goal

pub returns-in_err-plain-clause-value : goal.returns-in_err-plain-clause-value
returns-in_err-plain-clause-value c =
    handed_on _ _ _ c.from_residual.ensures.1
    (seq_stop _ _ _ _ (opened c.args.file.now (length c.args.statement.now)) (sym c.in_err-plain.ensures.answer_value))

pub returns-in_err-plain-clause-statement_after : goal.returns-in_err-plain-clause-statement_after
returns-in_err-plain-clause-statement_after c =
    let f = c.args.file.now in
    refused (days_by own_days f) f _ c.args.statement.now (refuses _ c.from_residual.ensures.0)

pub settle_accepted-requires : goal.settle_accepted-requires
settle_accepted-requires c =
    let told = c.in_ok-plain.ensures in
    (own_settleable _ (ap number_of (sym told.answer_value)), told.plain_told)

pub returns : goal.returns
returns c =
    let settled = c.settle_accepted.ensures in
    let accepted = ap number_of (sym c.in_ok-plain.ensures.answer_value) in
    let past = past_check c.args.file.now c.args.statement.now _ _ accepted settled.value settled.statement_after in
    record { value = past.0; statement_after = past.1 }

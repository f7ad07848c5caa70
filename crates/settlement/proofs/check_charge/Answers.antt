use Rattle.std.proofs.Common.{sym, ◌∙◌, arith}
use Rattle.settlement.specs.Settlement.{charge_rule}
use Rattle.settlement.proofs.Hours.{hour_demands}
use Rattle.settlement.proofs.check_charge.Goals as goal

pub returns-then-chargeable_hour : goal.returns-then-chargeable_hour
unfolding charge_rule
returns-then-chargeable_hour c = rw (sym c.chargeable_hour.ensures ∙ c.if-chargeable_hour.true)

pub overflow_add-result : goal.overflow_add-result
overflow_add-result c = omega (arith, (hour_demands c.args.hour.stands).room)

pub overflow_add-result-2 : goal.overflow_add-result-2
overflow_add-result-2 c = omega (arith, (hour_demands c.args.hour.stands).room, c.word-load.ensures)

pub overflow_add-result-3 : goal.overflow_add-result-3
overflow_add-result-3 c = omega (arith, (hour_demands c.args.hour.stands).room, c.word-load.ensures)

pub returns : goal.returns
unfolding charge_rule
returns c =
    let none = sym c.chargeable_hour.ensures ∙ c.if-chargeable_hour.false in
    rw (none, c.word-load.ensures, c.args.hour.stands.here)

use Rattle.amounts.proofs.AmountSizes.{amounts_ranged}
use Rattle.explaining.proofs.hour_amount.Goals as goal

pub amount_of-requires : goal.amount_of-requires
amount_of-requires c =
    let hour = c.args.hour in
    let k = hour.stands in
    amounts_ranged hour.terms hour.body.now hour.h _ c.amounts.ensures k.sound k.below k.kept

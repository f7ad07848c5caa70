use Rattle.std.proofs.Common.{sym, ◌∙◌}
use Rattle.amounts.specs.Amounts.{hour_facts}
use Rattle.amounts.proofs.Hours.{hour_there}
use Rattle.amounts.proofs.Quantities.{upward_small}
use Rattle.amounts.proofs.AmountSizes.{needed_small}
use Rattle.amounts.proofs.HourAmounts.{day_ranged, without_flag, in_peak, outside_peak}
use Rattle.amounts.proofs.DayHour.amounts.Goals as goal

pub returns-then-flag-ne1 : goal.returns-then-flag-ne1
returns-then-flag-ne1 c = without_flag _ _ _ (λ q. c.if-flag-ne1.true (c.word-flag.ensures ∙ q))

pub on_peak-on_peak-requires : goal.on_peak-on_peak-requires
on_peak-on_peak-requires c =
    let k = c.args.self.stands in
    (day_ranged k, rw c.requires (needed_small c.args.self.body.now k.sound c.args.self.h k.below c.args.self.terms))

pub returns-then-peak_hour : goal.returns-then-peak_hour
returns-then-peak_hour c =
    in_peak c.args.self.stands (sym c.word-flag.ensures ∙ c.if-flag-ne1.false) c.requires c.hour_facts-facts.ensures c.down_amount-down.ensures
    (sym c.peak_hour.ensures ∙ c.if-peak_hour.true) c.on_peak-on_peak.ensures

pub off_peak-requires-clause-in_range : goal.off_peak-requires-clause-in_range
unfolding hour_facts
off_peak-requires-clause-in_range c =
    let k = c.args.self.stands in (
      rw c.hour_facts-facts.ensures (upward_small _ _ (hour_there k)),
      rw c.requires (needed_small c.args.self.body.now k.sound c.args.self.h k.below c.args.self.terms),
    )

pub returns : goal.returns
returns c =
    outside_peak c.args.self.stands (sym c.word-flag.ensures ∙ c.if-flag-ne1.false) c.requires c.hour_facts-facts.ensures c.down_amount-down.ensures
    (sym c.peak_hour.ensures ∙ c.if-peak_hour.false) c.off_peak.ensures

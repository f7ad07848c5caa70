use Rattle.std.proofs.Common.{◌≡◌, ◌&&◌, eqb, sym, ap, ◌∙◌, eqb-true, leb}
use lib.Bits.{bit_or}
use Rattle.limits.specs.Ranges.{most_demand}
use Rattle.verdict.specs.Verdict.{number_of}
use Rattle.verdict.proofs.Accepted.{accepted_alone}
use Rattle.hour.specs.Check.{hour_rule}
use Rattle.hour.specs.Plain.{plain_hour}
use Rattle.hour.proofs.Gathered.{nothing_gathered}
use Rattle.hour.proofs.check.Goals as goal
use Rattle.hour.proofs.check.Goals.{then-not-accepted+in_ok-first_broken, else-not-accepted}

pub returns-clause-answer_value : goal.returns-clause-answer_value
returns-clause-answer_value c =
    let s = c.args in
    let gathered = bit_or c.numbers_gathered-numbers.result c.intervals_gathered-intervals.result.outside in
    let told : c.accepted.result ≡ eqb (number_of (hour_rule s.start s.body.now s.load s.count s.at)) 0 =
    c.accepted.ensures
    ∙ ap (λ n. eqb gathered 0 && leb n most_demand) c.demand_sum-demand.ensures
    ∙ nothing_gathered s.start s.body.now s.load s.count s.at _ _
    (c.numbers_gathered-numbers.ensures s.start) (c.intervals_gathered-intervals.ensures.accepted s.start) in
    elim c.if-not-accepted.branch [
      | then-not-accepted+in_ok-first_broken w ↦ w.in_ok-first_broken.ensures
      | else-not-accepted w ↦ sym (accepted_alone _ (eqb-true _ _ (sym told ∙ w.if-not-accepted.false)))
    ]

pub returns-clause-plain_value : goal.returns-clause-plain_value
unfolding plain_hour
returns-clause-plain_value c =
    let intervals = c.intervals_gathered-intervals.ensures in
    c.plain.ensures ∙ rw (intervals.counted, intervals.some, c.demand_sum-demand.ensures)

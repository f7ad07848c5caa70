use Rattle.std.proofs.Common.{◌+◌}
use Rattle.limits.specs.Ranges.{most_requirement, most_market_price}
use Rattle.hour.specs.Check.{numbers_rule}
use Rattle.hour.proofs.Gathered.{range_gathered, both_gathered}
use Rattle.hour.proofs.numbers_gathered.Goals as goal

pub returns : goal.returns
unfolding numbers_rule
returns c start =
    let at = c.args.at in
    let requirement = range_gathered (start + (at + 6)) most_requirement c.word.result _ c.outside-second.ensures in
    let mec = range_gathered (start + (at + 7)) most_market_price c.magnitude-mec.result _ c.outside.ensures in
    both_gathered (c.deficiencies_gathered-first.ensures start)
    (both_gathered (rw c.word.ensures at requirement) (rw (c.magnitude-mec.ensures, c.word-2.ensures) at mec))

use Rattle.std.proofs.Common.{◌≡◌, refl, arith}
use Rattle.verdict.specs.First.{scan}
use Rattle.hour.specs.Check.{deficiency_rule_at, deficiencies_rule}
use Rattle.hour.proofs.Gathered.{range_gathered, more_gathered}
use Rattle.hour.proofs.deficiencies_gathered.Goals as goal

pub loop-i-init : goal.loop-i-init
unfolding scan
loop-i-init c start = record { exact = refl }

pub loop-i-preserved : goal.loop-i-preserved
unfolding deficiency_rule_at
loop-i-preserved c start =
    more_gathered (deficiency_rule_at start _ _) (c.loop-i.invariant start)
    (rw (← c.word.ensures) (range_gathered _ _ c.word.result _ c.outside-gathered.ensures))

pub returns : goal.returns
unfolding deficiencies_rule
returns c start = let e : c.loop-i.i ≡ 6 = omega arith in rw e at (c.loop-i.invariant start)

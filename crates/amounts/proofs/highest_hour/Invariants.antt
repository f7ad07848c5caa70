use Rattle.std.proofs.Common.{◌≡◌}
use Rattle.body.specs.Layout.{hour_at}
use Rattle.amounts.specs.Amounts.{highest, upward_at, tier_at}
use Rattle.amounts.proofs.highest_hour.Given as goal

abbrev pub invariant-loop-h : goal.invariant-loop-h
invariant-loop-h l = record {
  start : l.at ≡ hour_at l.body l.h;
  most : l.most.0 ≡ highest l.terms (upward_at l.body) l.h;
  tier : l.tier ≡ highest l.terms (tier_at l.body) l.h;
}

use Rattle.std.proofs.Common.{◌<◌, ◌^◌, rules}
use Rattle.std.specs.List.{sum}
use Rattle.std.proofs.iter.runs.Made.{chains}
use Rattle.shares.proofs.Running.{total_sum}
use Rattle.shares.proofs.sum_of_demands.Goals as goal

pub sum-requires-clause-fits : goal.sum-requires-clause-fits
sum-requires-clause-fits c = let h : sum c.args.demands.now < 2 ^ 32 = rw (← total_sum c.args.demands.now) c.requires in search (rules, chains)

pub returns : goal.returns
returns c = rw total_sum (search (rules, chains))

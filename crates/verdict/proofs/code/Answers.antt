use Rattle.std.proofs.Common.{rules}
use Rattle.verdict.specs.Verdict.{coded}
use Rattle.verdict.proofs.code.Goals as goal

pub returns : goal.returns
unfolding coded
returns c = search rules

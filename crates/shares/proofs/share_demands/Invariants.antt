use Rattle.std.proofs.Common.{drop}
use Rattle.exact.proofs.Filling.{Filling}
use Rattle.shares.specs.Shares.{shares}
use Rattle.shares.proofs.Sharing.{Shared}
use Rattle.shares.proofs.share_demands.Given as goal

abbrev pub invariant-loop-i : goal.invariant-loop-i
invariant-loop-i l =
    record {
      shared : Shared l.fn.amount l.demands l.carried l.i;
      filling : Filling (shares l.fn.amount l.demands) l.initial.charges l.charges (drop l.i (shares l.fn.amount l.demands)) l.i;
    }

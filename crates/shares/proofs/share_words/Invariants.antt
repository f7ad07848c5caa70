use Rattle.std.proofs.Common.{◌≡◌, ◌++◌, ◌*◌, take, drop}
use Rattle.words.specs.Bytes.{words_from}
use Rattle.encoding.specs.Encoding.{encoded}
use Rattle.shares.specs.Shares.{shares}
use Rattle.shares.proofs.Sharing.{Shared}
use Rattle.shares.proofs.share_words.Given as goal

abbrev pub invariant-loop-i : goal.invariant-loop-i
invariant-loop-i l =
    record {
      shared : Shared l.fn.amount (words_from l.bytes l.from l.count) l.carried l.i;
      written : l.charges ≡ encoded (take l.i (shares l.fn.amount (words_from l.bytes l.from l.count))) ++ drop (8 * l.i) l.initial.charges;
    }

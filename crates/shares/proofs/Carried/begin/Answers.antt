use Rattle.std.proofs.Common.{refl, sym}
use mir.Syntax.{w64}
use mir.ValLaws.{to_z-of_z}
use Rattle.shares.proofs.Sharing.{up_to_zero}
use Rattle.shares.proofs.Carried.begin.Goals as goal

pub returns : goal.returns
returns c =
    let amount = to_z-of_z w64 _ c.ranges.amount in (
      rw amount (record {
        rates = rw amount at c.rates_of.ensures;
        few = c.requires.0;
        small = c.requires.1;
        carried = sym (up_to_zero c.args.amount c.args.whole);
      }),
      (amount, (refl, refl)),
    )

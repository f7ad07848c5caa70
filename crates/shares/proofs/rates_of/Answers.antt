use Rattle.std.proofs.Common.{◌≡◌, ◌∙◌, ap}
use lib.IntN.{nat_abs}
use mir.Syntax.{w64}
use mir.ValLaws.{to_z-of_z}
use Rattle.shares.specs.Rates.{rates_of}
use Rattle.shares.proofs.rates_of.Goals as goal

pub returns : goal.returns
unfolding rates_of
returns c =
    let size : c.absolute-size.result ≡ nat_abs c.args.amount = c.absolute-size.ensures ∙ ap nat_abs (to_z-of_z w64 _ c.ranges.amount) in
    simp size

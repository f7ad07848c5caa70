-- What the check accepts keeps the amount, the demands and the charges within what `share_demands` asks.
use Rattle.std.proofs.Common.{ap, sym}
use mir.Syntax.{w64}
use mir.ValLaws.{to_z-of_z}
use Rattle.verdict.specs.Verdict.{number_of}
use Rattle.shares.proofs.Sharing.{share_fits}
use Rattle.columns.proofs.Accepted.{columns_accepted}
use Rattle.columns.proofs.share_columns.Goals as goal

pub share_demands-requires : goal.share_demands-requires
share_demands-requires c =
    let checked = rw (to_z-of_z w64 _ c.ranges.amount) at c.in_ok-check_columns.ensures in
    let a = columns_accepted _ _ _ _ (ap number_of (sym checked)) in
    rw (to_z-of_z w64 _ c.ranges.amount) (share_fits c.args.amount _ a.amount_within a.total_within, (a.total_within, a.room_enough))

use Rattle.std.proofs.Common.{◌≡◌, sym, ap, refl, ◌∙◌, true}
use Rattle.std.specs.Prelude.{Ok, Err, is_ok}
use Rattle.verdict.specs.Verdict.{Verdict, number_of}
use Rattle.price.proofs.Answers.{pairs_ranged}
use Rattle.price.proofs.load_weighted_within.Goals as goal

accepted_so : (verdict : Verdict) → is_ok verdict ≡ true → number_of verdict ≡ 0
accepted_so (Ok _) is = refl
accepted_so (Err refusal) is = cc

pub average_price-requires-clause-ranged : goal.average_price-requires-clause-ranged
average_price-requires-clause-ranged c =
    pairs_ranged _ _ (ap number_of (sym c.intervals.ensures)
    ∙ accepted_so _ (sym c.map_err.ensures.variant ∙ ap is_ok c.in_ok-map_err.was))

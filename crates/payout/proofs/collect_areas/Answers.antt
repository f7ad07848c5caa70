use Rattle.std.proofs.Common.{◌≡◌, ℕ, List, ap, ◌∙◌, refl}
use Rattle.body.specs.Layout.{days_of}
use Rattle.contents.specs.File.{peak_of, body_at}
use Rattle.collecting.specs.Directions.{amount_in}
use Rattle.payout_rules.specs.PayOut.{collected_from}
use Rattle.payout_rules.proofs.Areas.{areas_step}
use Rattle.payout.proofs.collect_areas.Goals as goal

-- what is collected under the terms that were made for area k
collected_there : (file : List ℕ) (k peak days : ℕ) (body : List ℕ) → peak ≡ peak_of file → days ≡ days_of (body_at file k) → body ≡ body_at file k
    → amount_in (record { peak = peak; days = days }) body ≡ collected_from file k
collected_there file k peak days body e f g = rw (e, f, g) refl

pub loop-k-preserved : goal.loop-k-preserved
loop-k-preserved c =
    let f = c.args.file.now in
    let l = c.loop-k in
    let body = c.body_at-body.ensures.0 in
    let is = collected_there f l.k _ _ _ c.word-peak.ensures (c.word.ensures ∙ ap days_of body) body in
    areas_step (collected_from f) l.k c.args.collected.now l.collected _ l.invariant (rw is at c.collect.ensures)

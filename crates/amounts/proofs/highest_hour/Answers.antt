use Rattle.std.proofs.Common.{◌≡◌, refl, sym, ap, ap₂, ◌∙◌, max, arith, rules}
use Rattle.body.specs.Layout.{hour_at}
use Rattle.surcharge.specs.Surcharge.{peak_hour}
use Rattle.amounts.specs.Amounts.{highest, upward_at, tier_at, hour_facts}
use Rattle.amounts.proofs.Hours.{highest_more, hour_upward, hour_tier, walk_ranged, walk_on}
use Rattle.amounts.proofs.highest_hour.Goals as goal

pub loop-h-init : goal.loop-h-init
unfolding highest
loop-h-init c = record { start = rw (← c.word-load.ensures, ← c.word-count.ensures) c.first_hour-at.ensures; most = refl; tier = refl }

pub hour_facts-facts-requires : goal.hour_facts-facts-requires
hour_facts-facts-requires c = let l = c.loop-h in walk_ranged _ c.requires l.h (omega arith) _ l.invariant.start

pub next_hour-at-requires : goal.next_hour-at-requires
next_hour-at-requires c =
    let l = c.loop-h in walk_on _ c.requires l.h (omega arith) _ l.invariant.start _ _ c.word-load.ensures c.word-count.ensures (omega arith)

pub loop-h-preserved : goal.loop-h-preserved
loop-h-preserved c =
    let l = c.loop-h in
    let b = c.args.body.now in
    let t = c.args.terms in
    let f = c.hour_facts-facts.result in
    let facts : f ≡ hour_facts (peak_hour t l.h) b (hour_at b l.h) = c.hour_facts-facts.ensures ∙ rw (c.peak_hour.ensures, l.invariant.start) in
    let m : c.max-most.result.0 ≡ max l.most.0 f.upward.0 = search rules in
    record {
      start = rw (← c.word-load.ensures, ← c.word-count.ensures) c.next_hour-at.ensures;
      most = m ∙ ap₂ max l.invariant.most (ap (λ r. r.upward.0) facts ∙ hour_upward (peak_hour t l.h) b _) ∙ sym (highest_more t (upward_at b) l.h);
      tier = c.max-tier.ensures ∙ ap₂ max l.invariant.tier (ap (λ r. r.tier) facts ∙ hour_tier (peak_hour t l.h) b l.h) ∙ sym (highest_more t (tier_at b) l.h);
    }

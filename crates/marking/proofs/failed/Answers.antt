use Rattle.std.proofs.Common.{◌≡◌, ℕ, true, List, refl, sym, arith}
use Rattle.limits.specs.Ranges.{day_hours}
use Rattle.body.specs.Layout.{hour_at}
use Rattle.amounts.specs.declared.Hour.{Hour}
use Rattle.amounts.specs.Amounts.{tier_at, hour_facts}
use Rattle.amounts.proofs.Hours.{walk_ranged, walk_on}
use Rattle.marking.specs.Marked.{failed_before}
use Rattle.marking.proofs.MarkedAreas.{failed_so, failed_not}
use Rattle.marking.proofs.failed.Goals as goal

tier-is : (body : List ℕ) (h at : ℕ) (facts : Hour) → at ≡ hour_at body h → facts ≡ hour_facts true body at → facts.tier ≡ tier_at body h
unfolding hour_facts tier_at
tier-is body h at facts here is = rw (is, here)

pub loop-h-init : goal.loop-h-init
unfolding failed_before
loop-h-init c = record { start = rw (← c.word-load.ensures, ← c.word-count.ensures) c.first_hour-at.ensures; none = refl }

pub hour_facts-facts-requires : goal.hour_facts-facts-requires
hour_facts-facts-requires c = let l = c.loop-h in walk_ranged _ c.requires l.h (omega arith) _ l.invariant.start

pub returns-then-facts-ge2 : goal.returns-then-facts-ge2
returns-then-facts-ge2 c =
    let b = c.args.body.now in
    let l = c.loop-h in
    let tier = tier-is b l.h _ _ l.invariant.start c.hour_facts-facts.ensures in
    sym (failed_so b day_hours l.h (omega arith) (omega (arith, tier)))

pub next_hour-at-requires : goal.next_hour-at-requires
next_hour-at-requires c =
    let l = c.loop-h in walk_on _ c.requires l.h (omega arith) _ l.invariant.start _ _ c.word-load.ensures c.word-count.ensures (omega arith)

pub loop-h-preserved : goal.loop-h-preserved
loop-h-preserved c =
    let b = c.args.body.now in
    let l = c.loop-h in
    let tier = tier-is b l.h _ _ l.invariant.start c.hour_facts-facts.ensures in
    record {
      start = rw (← c.word-load.ensures, ← c.word-count.ensures) c.next_hour-at.ensures;
      none = failed_not b l.h l.invariant.none (omega (arith, tier));
    }

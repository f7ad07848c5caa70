use Rattle.std.proofs.Common.{◌≡◌, ◌+◌, ◌++◌, ◌∷◌, take, drop, length, get_or, arith, ap, sym, ◌∙◌, length-take}
use Rattle.std.proofs.lemmas.List.{take_rest}
use Rattle.recording.specs.Record.{place, entries, marked}
use Rattle.recording.proofs.InPlace.{leading, lead_is, lead_most, marked_held, marked_new, put_length, answer_marked, answer_refused}
use Rattle.recording.proofs.mark.Goals as goal
use Rattle.recording.proofs.mark.Goals.{Joined-get, in-Some+else-p-area, in_default}

pub returns-then-p-area : goal.returns-then-p-area
returns-then-p-area c =
    let l = entries c.args.given in
    let area = c.args.area in
    let k = c.unwrap_or-k.result in
    let p = c.in-Some.p.now in
    let there = c.in-Some.ensures.lookup.3 in
    let here : p ≡ get_or l k (place 0 0) = there.1 (place 0 0) in
    let e : marked area l ≡ take k l ++ (place area (p.marks + 1) ∷ drop (k + 1) l) = rw here (marked_held area l k (place 0 0)
    (lead_is area l _ k c.place_of.ensures c.unwrap_or-k.ensures) there.0 (ap (λ q. q.area) (sym here) ∙ c.if-p-area.true)) in
    answer_marked c.args.given.last (marked area l) c.between.result
    (rw e (omega (arith, there.0, put_length l k (k + 1) (place area (p.marks + 1)), length-take c.args.given.held c.args.given.places)))
    (rw e (simp take_rest at c.between.ensures))

-- where the area is not held
new : (c : Joined-get) → let l = entries c.args.given in
    let k = c.unwrap_or-k.result in
    (marked c.args.area l ≡ take k l ++ (place c.args.area 1 ∷ drop k l)) × (length (marked c.args.area l) ≡ length l + 1)
new c =
    let l = entries c.args.given in
    let area = c.args.area in
    let k = c.unwrap_or-k.result in
    let first : leading area l ≡ k = lead_is area l _ k c.place_of.ensures c.unwrap_or-k.ensures in
    let e : marked area l ≡ take k l ++ (place area 1 ∷ drop k l) = marked_new area l k (place 0 0) first
    (λ h e. elim c.match-get.branch [
      | in-Some+else-p-area w ↦ w.if-p-area.false (ap (λ q. q.area) (w.in-Some.ensures.lookup.3.1 (place 0 0)) ∙ e)
      | in_default w ↦ omega (arith, w.in_default.ensures.lookup.3)
    ]) in
    (e, rw e (omega (arith, put_length l k k (place area 1), lead_most area l, first)))

pub returns-then-places-eq-MOST_HELD : goal.returns-then-places-eq-MOST_HELD
returns-then-places-eq-MOST_HELD c =
    answer_refused c.args.given.last (marked c.args.area (entries c.args.given)) (omega (arith, (new c.before).1, c.if-places-eq-MOST_HELD.true))

pub returns : goal.returns
returns c =
    let new-is = new c.before.before.before in
    answer_marked c.args.given.last (marked c.args.area (entries c.args.given)) c.between-2.result
    (omega (arith, new-is.1, length-take c.args.given.held c.args.given.places))
    (rw new-is.0 (simp take_rest at c.between-2.ensures))

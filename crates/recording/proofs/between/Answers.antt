use Rattle.std.proofs.Common.{◌≡◌, ◌++◌, ◌∷◌, [], arith, ◌∙◌, ap, length-append, append_assoc}
use Rattle.recording.specs.Record.{record_of, entries, pushed}
use Rattle.recording.proofs.Lists.{push_list}
use Rattle.recording.proofs.InPlace.{entries_of_lem, listed_of}
use Rattle.recording.proofs.between.Goals as goal

with_it : (c : goal.After-push) → c.push.result ≡ record_of c.args.last (c.args.before.now ++ (c.args.added ∷ []))
with_it c =
    c.push.ensures ∙ ap (λ r. pushed r c.args.added) (simp c.empty.ensures at c.extended.ensures)
    ∙ push_list c.args.last c.args.before.now c.args.added (omega arith)

pub extended-requires-2 : goal.extended-requires-2
extended-requires-2 c =
    let l = c.args.before.now ++ (c.args.added ∷ []) in
    (omega (arith, ap (λ r. r.held) (with_it c), length-append c.args.before.now (c.args.added ∷ [])), listed_of c.push.result c.args.last l (with_it c))

pub returns : goal.returns
returns c =
    let l = c.args.before.now ++ (c.args.added ∷ []) in
    let behind = c.args.behind.now in
    c.extended-2.ensures ∙ ap (λ r. record_of r.last (entries r ++ behind)) (with_it c.before)
    ∙ ap (λ m. record_of c.args.last (m ++ behind)) (entries_of_lem c.args.last l)
    ∙ ap (record_of c.args.last) (append_assoc c.args.before.now (c.args.added ∷ []) behind)

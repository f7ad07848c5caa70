-- What is known of the head of a body whose rule was kept.
use Prim.Native.Nat.{ℕ, ◌+◌, ◌/◌, ◌≤◌}
use mathlib.Core.Bool.{◌&&◌}
use mathlib.Core.List.{List}
use mathlib.Core.Path.{◌≡◌}
use lib.Dec.{leb, eqb}
use lib.ListN.{length}
use borrow.Author.Tests.{leb-true, eqb-true}
use Rattle.words.specs.Word.{word_at}
use Rattle.verdict.specs.Verdict.{number_of}
use Rattle.verdict.proofs.First.{kept, both, or_first, or_second}
use Rattle.limits.specs.Ranges.{most_days, most_hub_price}
use Rattle.limits.specs.declared.Limits.{Limits}
use Rattle.body.specs.Layout.{body_words, kind_of}
use Rattle.body.specs.Check.{body_head_rule, body_head_of, coordinator_count_rule, front_rule, body_rule}

-- the kind word of an accepted body: no second CISO area stands in the file
pub one_ciso : (start : ℕ) (body : List ℕ) (limits : Limits) (ciso : ℕ) → number_of (body_rule start body limits ciso) ≡ 0 → ciso + kind_of body ≤ 1
unfolding body_rule front_rule body_head_of body_head_rule
one_ciso start body limits ciso z =
    let a = kept (leb (kind_of body) 1) _ _ (or_first _ _ (or_first _ _ z)) in
    leb-true _ _ (kept (leb (ciso + kind_of body) 1) _ _ a.1).0

-- the word of L, behind the words before it
points_kept : (points ciso start kind flag days hubA hubB load : ℕ) → number_of (body_head_rule points ciso start kind flag days hubA hubB load) ≡ 0
    → load ≤ points
unfolding body_head_rule
points_kept points ciso start kind flag days hubA hubB load z =
    let kinds = (kept (leb (ciso + kind) 1) _ _ (kept (leb kind 1) _ _ z).1).1 in
    let hubs = (kept (leb days most_days) _ _ (kept (leb flag 1) _ _ kinds).1).1 in
    let last = (kept (leb hubB most_hub_price) _ _ (kept (leb hubA most_hub_price) _ _ hubs).1).1 in
    leb-true _ _ (both (leb 1 load) _ (kept (leb 1 load && leb load points) _ _ last).0).1

count_kept : (start size most load count : ℕ) → number_of (coordinator_count_rule start size most load count) ≡ 0
    → (1 ≤ count) × (count ≤ most) × (size ≡ body_words load count)
unfolding coordinator_count_rule
count_kept start size most load count z =
    let p = kept (leb 1 count && leb count most) _ _ z in
    let r = kept (eqb size (body_words load count)) _ _ p.1 in
    let b = both (leb 1 count) _ p.0 in
    (leb-true _ _ b.0, leb-true _ _ b.1, eqb-true _ _ r.0)

-- the head of a body is accepted: its load points are in range, and its size is the one that L and K give
pub front_points : (start : ℕ) (body : List ℕ) (points ciso : ℕ) → number_of (front_rule start body points ciso) ≡ 0 → word_at body 5 ≤ points
unfolding front_rule body_head_of
front_points start body points ciso z = points_kept _ _ _ _ _ _ _ _ _ (or_first _ _ z)

pub front_size : (start : ℕ) (body : List ℕ) (points ciso : ℕ) → number_of (front_rule start body points ciso) ≡ 0
    → length body / 4 ≡ body_words (word_at body 5) (word_at body 6)
unfolding front_rule
front_size start body points ciso z = (count_kept _ _ _ _ _ (or_second _ _ z)).2

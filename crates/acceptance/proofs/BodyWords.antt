-- The words of a body, each judged by its rule.
use Prim.Native.Nat.{ℕ, suc, ◌+◌, ◌/◌, ◌≤◌, ◌<◌, zero-le}
use mathlib.Core.Bool.{◌&&◌}
use mathlib.Core.List.{List}
use mathlib.Core.Path.{◌≡◌, refl}
use native.Mathlib.Numerals.{add-one}
use native.Mathlib.Omega.{arith}
use lib.Dec.{leb, ltb, eqb}
use lib.IntN.{nat_abs}
use lib.ListN.{length}
use borrow.Author.Tests.{eqb-true, eq-eqb}
use Rattle.verdict.specs.Verdict.{Accepted}
use Rattle.words.specs.Word.{word_at, signed_of}
use Rattle.limits.specs.declared.Limits.{Limits}
use Rattle.limits.specs.Ranges.{day_hours, most_hub_price, most_days, largest_number}
use Rattle.verdict.specs.declared.Refusal.TheVariants.{BadContents, BadBodyHead, BadCoordinator}
use Rattle.hour.specs.Layout.{hour_words}
use Rattle.body.specs.Layout.{body_words, hour_start, coordinator_before}
use Rattle.body.specs.Check.{most_of_kind, body_head_rule, coordinator_count_rule, coordinator_rule, body_head_of, front_rule, coordinator_rule_at}
use Rattle.body.specs.Check.{coordinators_rule, hour_rule_at, hours_rule, body_rule}
use Rattle.body.proofs.HourPlaces.{first_hour, hour_next}
use Rattle.body.proofs.Rules.{front_size}
use Rattle.body.specs.Kept.{BodyKept}
use Rattle.acceptance.proofs.Tests.{between, between_test, above, above_test}
use Rattle.acceptance.proofs.Judged.{Judged, Nothing, Word, Both, Each, none, ◌then◌, ◌and◌, for_each, accepted_judged, rule_judged}
use Rattle.acceptance.proofs.Judged.{most_judged, or_judged, and_judged, scan_judged, judged_as}
use Rattle.acceptance.proofs.HourWords.{Hour, hour_judged}

-- ---- the rules of the head

abbrev HeadWords : (points ciso start kind flag days hubA hubB load : ℕ) → ℕ → Type 0
HeadWords points ciso start kind flag days hubA hubB load =
    Word start (kind ≤ 1)
    (Word start (ciso + kind ≤ 1)
    (Word (start + 1) (flag ≤ 1)
    (Word (start + 2) (days ≤ most_days)
    (Word (start + 3) (hubA ≤ most_hub_price)
    (Word (start + 4) (hubB ≤ most_hub_price)
    (Word (start + 5) ((1 ≤ load) × (load ≤ points)) Nothing))))))

head_judged : (points ciso start kind flag days hubA hubB load : ℕ)
    → Judged (body_head_rule points ciso start kind flag days hubA hubB load) start (start + 6) (HeadWords points ciso start kind flag days hubA hubB load)
unfolding body_head_rule
head_judged points ciso start kind flag days hubA hubB load =
    most_judged kind 1 (BadBodyHead start) _ start (start + 6) _ (omega arith) (omega arith) (omega arith)
    (most_judged (ciso + kind) 1 (BadBodyHead start) _ (start + 1) (start + 6) _ (omega arith) (omega arith) (omega arith)
    (most_judged flag 1 (BadBodyHead (start + 1)) _ (start + 2) (start + 6) _ (omega arith) (omega arith) (omega arith)
    (most_judged days most_days (BadBodyHead (start + 2)) _ (start + 3) (start + 6) _ (omega arith) (omega arith) (omega arith)
    (most_judged hubA most_hub_price (BadBodyHead (start + 3)) _ (start + 4) (start + 6) _ (omega arith) (omega arith) (omega arith)
    (most_judged hubB most_hub_price (BadBodyHead (start + 4)) _ (start + 5) (start + 6) _ (omega arith) (omega arith) (omega arith)
    (rule_judged (BadBodyHead (start + 5)) Accepted (start + 6) (start + 6) _ Nothing (omega arith) (omega arith) (omega arith) (accepted_judged _ _)
    (leb 1 load && leb load points) (between 1 load points) (between_test 1 load points)))))))

abbrev CountWords : (start size most load count : ℕ) → ℕ → Type 0
CountWords start size most load count =
    Word (start + 6) ((1 ≤ count) × (count ≤ most))
    (Word (start + 6) (size ≡ body_words load count) Nothing)

count_judged : (start size most load count : ℕ)
    → Judged (coordinator_count_rule start size most load count) (start + 6) (start + 7) (CountWords start size most load count)
unfolding coordinator_count_rule
count_judged start size most load count =
    rule_judged (BadBodyHead (start + 6)) _ (start + 6) (start + 7) _ _ (omega arith) (omega arith) (omega arith)
    (rule_judged (BadContents (start + 6)) Accepted (start + 7) (start + 7) _ Nothing (omega arith) (omega arith) (omega arith) (accepted_judged _ _)
    (eqb size (body_words load count)) (eqb-true size (body_words load count)) (eq-eqb size (body_words load count)))
    (leb 1 count && leb count most) (between 1 count most) (between_test 1 count most)

-- ---- a coordinator number

abbrev Numbered : (place before number : ℕ) → ℕ → Type 0
Numbered place before number = Word place ((before < number) × (number ≤ largest_number)) Nothing

coordinator_judged : (place before number end : ℕ) → place < end → Judged (coordinator_rule place before number) place end (Numbered place before number)
coordinator_judged place before number end room =
    rule_judged (BadCoordinator place) Accepted place end _ Nothing (omega arith) (omega arith) room (accepted_judged place end)
    (ltb before number && leb number largest_number) (above before number largest_number) (above_test before number largest_number)

-- ---- the body

module _ (start : ℕ) (body : List ℕ) where
  abbrev Front : (points ciso : ℕ) → ℕ → Type 0
  Front points ciso =
      Both (HeadWords points ciso start (word_at body 0) (word_at body 1) (word_at body 2) (nat_abs (signed_of (word_at body 3)))
      (nat_abs (signed_of (word_at body 4))) (word_at body 5))
      (CountWords start (length body / 4) (most_of_kind (word_at body 0)) (word_at body 5) (word_at body 6))

  front-judged : (points ciso : ℕ) → Judged (front_rule start body points ciso) start (start + 7) (Front points ciso)
  unfolding front_rule body_head_of
  front-judged points ciso = and_judged _ _ _ (start + 6) _ _ _ (omega arith) (omega arith) (head_judged _ _ _ _ _ _ _ _ _) (count_judged _ _ _ _ _)

  abbrev Coordinator : ℕ → ℕ → Type 0
  Coordinator i = Numbered (start + (7 + i)) (coordinator_before body i) (word_at body (7 + i))

  coordinators-judged : (count : ℕ) → Judged (coordinators_rule start body count) (start + 7) (start + (7 + count)) (Each 0 count Coordinator)
  unfolding coordinators_rule coordinator_rule_at
  coordinators-judged count =
      scan_judged (coordinator_rule_at start body) (λ i. start + (7 + i)) Coordinator count (λ i p. omega arith)
      (λ i p. coordinator_judged (start + (7 + i)) (coordinator_before body i) (word_at body (7 + i)) (start + (7 + suc i)) (omega arith))
      _ _ (omega arith) (omega arith)

  module _ (load count : ℕ) where
    abbrev HourOf : ℕ → ℕ → Type 0
    HourOf h = Hour start body load count (hour_start load count h)

    next : (h : ℕ) → hour_start load count (suc h) ≡ hour_start load count h + hour_words load count
    next h = rw add-one at (hour_next load count h)

    behind-hours : hour_start load count day_hours ≡ body_words load count
    unfolding hour_start
    behind-hours = refl

    hours-judged : Judged (hours_rule start body load count) (start + (7 + count)) (start + body_words load count) (Each 0 day_hours HourOf)
    unfolding hours_rule hour_rule_at
    hours-judged =
        scan_judged (hour_rule_at start body load count) (λ h. start + hour_start load count h) HourOf day_hours (λ h p. omega (arith, next h))
        (λ h p. rw (next h) (hour_judged start body load count (hour_start load count h)))
        _ _ (omega (arith, first_hour load count)) (omega (arith, behind-hours))

  module _ (limits : Limits) (ciso : ℕ) where
    -- the words of the body in file order
    abbrev Words : ℕ → Type 0
    Words = Both (Front limits.points ciso) (Both (Each 0 (word_at body 6) Coordinator) (Each 0 day_hours (HourOf (word_at body 5) (word_at body 6))))

    words-judged : 7 ≤ length body / 4 → Judged (body_rule start body limits ciso) start (start + length body / 4) Words
    unfolding body_rule
    words-judged some =
        let behind = and_judged _ _ _ (start + (7 + word_at body 6)) _ _ _ (omega arith) (omega arith) (coordinators-judged (word_at body 6))
        (hours-judged (word_at body 5) (word_at body 6)) in
        or_judged _ _ _ (start + 7) _ _ _ (omega arith) (omega arith) (front-judged limits.points ciso) behind.early
        (λ z. rw (front_size start body limits.points ciso z) behind)

    -- they are the words of which `BodyKept` speaks
    kept-words : (p : ℕ) → BodyKept (λ j. start + j < p) limits.points ciso body → Words p
    kept-words p k =
        (((λ g. (k.kind (omega arith)).0) then (λ g. (k.kind (omega arith)).1) then k.flag then k.days then k.hub_a then k.hub_b then k.points then none)
        and (λ g. ((k.coordinators g).0, (k.coordinators g).1)) then (λ g. (k.coordinators g).2) then none)
        and for_each (λ i l. k.coordinator i l then none)
        and for_each (λ h l.
        (for_each (λ i m. k.deficiency h i l m then none) and k.requirement h l then none and k.mec h l then none)
        and for_each (λ i m. k.quantity h i l m then k.price h i l m then none)
        and for_each (λ i m. (λ g. (k.demand h i l m g).0) then (λ g. (k.demand h i l m g).1) then none))

    words_kept : (p : ℕ) → Words p → BodyKept (λ j. start + j < p) limits.points ciso body
    words_kept p k =
        let head = k.first.first in
        let count = k.first.second in
        let hour : (h : ℕ) → h < day_hours → HourOf (word_at body 5) (word_at body 6) h p = λ h l. k.second.second.each h zero-le l in
        record {
          kind = λ g. (head.here (omega arith), head.rest.here (omega arith));
          flag = λ g. head.rest.rest.here g;
          days = λ g. head.rest.rest.rest.here g;
          hub_a = λ g. head.rest.rest.rest.rest.here g;
          hub_b = λ g. head.rest.rest.rest.rest.rest.here g;
          points = λ g. head.rest.rest.rest.rest.rest.rest.here g;
          coordinators = λ g. ((count.here g).0, (count.here g).1, count.rest.here g);
          coordinator = λ i l g. (k.second.first.each i zero-le l).here g;
          deficiency = λ h i l m g. ((hour h l).first.first.each i zero-le m).here g;
          requirement = λ h l g. (hour h l).first.second.first.here g;
          mec = λ h l g. (hour h l).first.second.second.here g;
          quantity = λ h i l m g. ((hour h l).second.first.each i zero-le m).here g;
          price = λ h i l m g. ((hour h l).second.first.each i zero-le m).rest.here g;
          demand = λ h i l m g. let d = (hour h l).second.second.each i zero-le m in (d.here g, d.rest.here g);
        }

    pub body_judged : 7 ≤ length body / 4
        → Judged (body_rule start body limits ciso) start (start + length body / 4) (λ p. BodyKept (λ j. start + j < p) limits.points ciso body)
    body_judged some = judged_as _ _ _ Words _ words_kept kept-words (words-judged some)

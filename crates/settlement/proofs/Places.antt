-- Every refusal of the settlement has a place of at most the words of the longest file; and no statement needs more numbers than the longest.
use Prim.Native.Nat.{ℕ, zero, suc, ◌+◌, ◌*◌, ◌-◌, ◌/◌, ◌≤◌, ◌<◌}
use mathlib.Core.List.{List}
use mathlib.Core.Logic.{dite}
use mathlib.Core.Path.{◌≡◌, ap}
use mathlib.Core.Bool.{Bool, true, false, cond, not}
use native.Mathlib.Decide.{ℕ_discrete, dec_le}
use native.Mathlib.Omega.{arith}
use lib.Dec.{leb, eqb}
use lib.ListN.{length}
use Rattle.limits.specs.Ranges.{day_hours, least_present, most_coordinators}
use Rattle.limits.proofs.Editions.{areas_most, bytes_most}
use Rattle.verdict.specs.declared.Refusal.TheVariants.{PriceWithoutQuantity, AmountWithoutDemand, RoomTooShort, TooFewIntervals}
use Rattle.verdict.specs.Verdict.{number_of, place_of, Accepted, Verdict}
use Rattle.verdict.proofs.Accepted.{accepted_place}
use Rattle.verdict.proofs.First.{Holds, rule_holds, or_holds, scan_holds}
use Rattle.body.specs.Layout.{kind_of, points_of, coordinators_of, hour_at, intervals_at, demands_at}
use Rattle.body.specs.Check.{most_of_kind}
use Rattle.body.proofs.Kept.{always, hour_inside}
use Rattle.contents.specs.File.{edition_of, areas_of, start_at, body_at}
use Rattle.dayfile.specs.Ciso.{ciso_before}
use Rattle.dayfile.specs.Check.{check_of}
use Rattle.dayfile.proofs.Facts.{within_limits, file_length, file_head, file_entry, file_one_ciso, body_length}
use Rattle.acceptance.proofs.Acceptance.{first_broken, length_exactly}
use Rattle.price.specs.Price.{answer_number, answer_count}
use Rattle.surcharge.specs.declared.Terms.{Terms}
use Rattle.amounts.specs.Amounts.{price_answer_at, price_needed, price_rule}
use Rattle.statement.specs.Block.{area_numbers}
use Rattle.settlement.specs.Settlement.{most_numbers, most_place, needed_to, numbers_needed, terms_at, chargeable, charge_rule, hour_refusal}
use Rattle.settlement.specs.Settlement.{hours_refusal, area_refusal, areas_refusal, accepted_rule, settle_with, days_by, own_days, settle_of}
use Rattle.settlement.proofs.Accepted.{sound_file}

-- K of an area is 1, and more where it is CISO
pub few_coordinators : (kind count : ℕ) → kind ≤ 1 → count ≤ most_of_kind kind → count ≤ 1 + (most_coordinators - 1) * kind
few_coordinators zero count h c = c
few_coordinators (suc zero) count h c = c
few_coordinators (suc (suc kind)) count h c = absurd (omega arith)

abbrev Small : Verdict → Type 0
Small verdict = place_of verdict ≤ most_place

accepted_small : Holds Small Accepted
accepted_small = record { holds = omega arith }

-- a verdict where it is asked for
if_small : (t : Bool) (v : Verdict) → Holds Small v → Holds Small (cond t v Accepted)
if_small true v w = w
if_small false v w = accepted_small

module _ (file : List ℕ) (accepted : number_of (check_of file) ≡ 0) where
  needed-by : (n : ℕ) → n ≤ areas_of file → needed_to file n ≤ area_numbers 1 * n + (area_numbers most_coordinators - area_numbers 1) * ciso_before file n
  unfolding needed_to ciso_before
  needed-by zero h = omega arith
  needed-by (suc k) h =
      let body = body_at file k in
      let sound = (sound_file file accepted).body k h in
      omega (arith, needed-by k (omega arith), few_coordinators (kind_of body) (coordinators_of body) (sound.kind always).0 (sound.coordinators always).1)

  one_ciso : (n : ℕ) → n ≤ areas_of file → ciso_before file n ≤ 1
  unfolding ciso_before
  one_ciso zero h = omega arith
  one_ciso (suc k) h = file_one_ciso _ file (within_limits file accepted) k h

  pub needed_most : numbers_needed file ≤ most_numbers
  needed_most =
      let few = (file_head _ file (within_limits file accepted)).few in
      omega (arith, needed-by (areas_of file) (omega arith), one_ciso (areas_of file) (omega arith), few, areas_most (edition_of file))

  words : length file / 4 ≤ most_place
  words =
      let b = bytes_most (edition_of file) in
      omega (arith, (file_length _ file (within_limits file accepted)).most_bytes b.0 b.1, b.2)

  module _ (terms : Terms) (k : ℕ) (below : k < areas_of file) where
    abbrev body : List ℕ
    body = body_at file k

    abbrev start : ℕ
    start = start_at file k

    -- an hour's first word past its body's words lies within the file
    hour-end : (h : ℕ) → h < day_hours → start + (hour_at body h + (8 + 24 * points_of body + coordinators_of body)) ≤ most_place
    hour-end h p =
        let z = within_limits file accepted in
        omega (arith, hour_inside _ body ((sound_file file accepted).body k below) h p, (file_entry _ file z k below).inside, body_length _ file z k below, words)

    hour-small : (h : ℕ) → h < day_hours → Holds Small (hour_refusal terms start body h)
    unfolding hour_refusal price_rule charge_rule
    hour-small h p =
        let end = hour-end h p in
        or_holds Small _ _
        (if_small (price_needed terms body h) _
        (rule_holds Small (leb (least_present * points_of body) (answer_count (price_answer_at body h))) (TooFewIntervals (start + intervals_at body h)) _ (λ e. omega arith)
        (λ e. rule_holds Small (not (eqb (answer_number (price_answer_at body h)) 11)) (PriceWithoutQuantity (start + intervals_at body h)) Accepted
        (λ e. omega arith) (λ e. accepted_small))))
        (λ z. rule_holds Small (chargeable terms body h) (AmountWithoutDemand (start + demands_at body h)) _ (λ e. omega arith) (λ e. accepted_small))

    hours-small : Holds Small (hours_refusal terms start body)
    unfolding hours_refusal
    hours-small = scan_holds Small accepted_small (hour_refusal terms start body) day_hours hour-small

  accepted-rule-small : (days : ℕ → ℕ) (room : ℕ) → Holds Small (accepted_rule days file room)
  unfolding accepted_rule areas_refusal area_refusal
  accepted-rule-small days room =
      rule_holds Small (leb (numbers_needed file) room) (RoomTooShort (numbers_needed file)) _ (λ e. omega (arith, needed_most))
      (λ e. scan_holds Small accepted_small (area_refusal days file) (areas_of file) (λ k p. hours-small (terms_at days file k) k p))

-- the check's place is that of a word of the file, which is not too long; 0 where there is none
check_small : (file : List ℕ) → place_of (check_of file) ≤ most_place
check_small file =
    let v = check_of file in
    let b = bytes_most (edition_of file) in
    dite (ℕ_discrete (number_of v) 0) (λ z. omega (arith, accepted_place v z))
    (λ z. dite (ℕ_discrete (number_of v) 1)
    (λ y. omega (arith, ((length_exactly file).1 ((length_exactly file).0 y)).1))
    (λ y. dite (dec_le (place_of v) most_place) (λ small. small)
    (λ large. absurd (y ((length_exactly file).1 (λ l. omega (arith, large, l.most b.0 b.1, b.2, (first_broken file z y).inside))).0))))

-- so number × 1,000,000 + place can be taken apart again
pub settle_place : (days : ℕ → ℕ) (file : List ℕ) (room : ℕ) → place_of (settle_with days file room) ≤ most_place
unfolding settle_with
settle_place days file room =
    (or_holds Small (check_of file) (accepted_rule days file room) (record { holds = check_small file }) (λ z. accepted-rule-small file z days room)).holds

-- so that number and place can be told from the coded answer
pub place_coded : (file : List ℕ) (room : ℕ) (answer : Verdict) → answer ≡ settle_of file room → place_of answer < 1000000
place_coded file room answer is = omega (arith, ap place_of is, settle_place (days_by own_days file) file room)

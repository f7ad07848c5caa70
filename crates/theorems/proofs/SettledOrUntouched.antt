-- Settled or untouched: after 0 the statement is the blocks and then what stood behind them ("Numbers past the needed ones stay"), after any other number it is
-- as it was ("A refusal writes nothing in any lent buffer"). And a settlement refuses exactly where the check refuses, or the room is short, or an hour of an
-- area has a refusal; it answers what the check, the numbers needed or the first such hour says.
use Prim.Native.Nat.{ℕ, ◌≤◌, ◌<◌}
use mathlib.Core.List.{List, ◌++◌}
use mathlib.Core.Logic.{◌⊎◌, inl, inr, ⊎_elim, dite, ◌↔◌}
use mathlib.Core.Path.{◌≡◌, refl, sym, ap, subst, ◌∙◌}
use native.Mathlib.Decide.{ℕ_discrete, dec_lt}
use native.Mathlib.Omega.{arith}
use lib.IntN.{ℤ}
use lib.ListN.{length, drop}
use borrow.Author.Tests.{le-leb, lt-leb}
use Rattle.limits.specs.Ranges.{day_hours}
use Rattle.std.specs.Prelude.{Err}
use Rattle.verdict.specs.declared.Refusal.TheVariants.{RoomTooShort}
use Rattle.verdict.specs.Verdict.{number_of, Verdict}
use Rattle.verdict.specs.First.{scan}
use Rattle.verdict.proofs.First.{scan_each, all_accept, or_stop, or_next}
use Rattle.contents.specs.File.{areas_of}
use Rattle.dayfile.specs.Check.{check_of}
use Rattle.settlement.specs.Settlement.{numbers_needed, statement_to, hours_refusal, area_refusal, areas_refusal, accepted_rule, settle_with, days_by, own_days}
use Rattle.settlement.specs.Settlement.{settle_by}
use Rattle.settlement.specs.Shown.{statement_left_by}
use Rattle.settlement.proofs.Accepted.{settled, refused}
use Rattle.theorems.specs.Refused.{Refuses, hour_verdict, FirstHour, CheckRefuses, RoomShort, HourRefuses, RefusedWith}
use Rattle.theorems.proofs.FirstIndex.{first_decides, first_of}

-- ---- under any d

abbrev pub SettledOrUntouched : (ℕ → List ℕ → ℕ) → Type 0
SettledOrUntouched d =
    (file : List ℕ) (statement : List ℤ)
    → ((number_of (settle_by d file (length statement)) ≡ 0)
    × (statement_left_by d file statement ≡ statement_to (days_by d file) file (areas_of file) ++ drop (numbers_needed file) statement))
    ⊎ (Refuses (settle_by d file (length statement)) × (statement_left_by d file statement ≡ statement))

pub settled_or_untouched_by : (d : ℕ → List ℕ → ℕ) → SettledOrUntouched d
settled_or_untouched_by d file statement =
    let answer = settle_by d file (length statement) in
    dite (ℕ_discrete (number_of answer) 0)
    (λ z. inl (z, sym (settled (days_by d file) file answer statement z)))
    (λ r. inr (r, sym (refused (days_by d file) file answer statement r)))

-- ---- what is answered, by the three ways

module _ (d : ℕ → List ℕ → ℕ) where
  module _ (file : List ℕ) where
    abbrev days : ℕ → ℕ
    days = days_by d file

    area-is : (k : ℕ) → area_refusal days file k ≡ scan (hour_verdict d file k) 0 day_hours
    unfolding area_refusal hours_refusal
    area-is k = refl

    module _ (room : ℕ) where
      by_check : Refuses (check_of file) → settle_by d file room ≡ check_of file
      unfolding settle_with
      by_check r = or_stop (check_of file) _ r

      by_room : number_of (check_of file) ≡ 0 → room < numbers_needed file → settle_by d file room ≡ Err (RoomTooShort (numbers_needed file))
      unfolding settle_with accepted_rule
      by_room z short = or_next (check_of file) _ z ∙ rw (lt-leb (numbers_needed file) room short)

      by-areas : number_of (check_of file) ≡ 0 → numbers_needed file ≤ room → settle_by d file room ≡ scan (area_refusal days file) 0 (areas_of file)
      unfolding settle_with accepted_rule areas_refusal
      by-areas z roomy = or_next (check_of file) _ z ∙ rw (le-leb (numbers_needed file) room roomy)

    -- the first hour that refuses decides all areas
    first-hour-decides : (k h : ℕ) → FirstHour d file k h → scan (area_refusal days file) 0 (areas_of file) ≡ hour_verdict d file k h
    first-hour-decides k h f =
        let within : area_refusal days file k ≡ hour_verdict d file k h =
        area-is k
        ∙ first_decides (hour_verdict d file k) 0 day_hours h
        (record { from = omega arith; below = f.hour; refuses = f.refuses; before = λ i _ p. f.hours_before i p }) in
        first_decides (area_refusal days file) 0 (areas_of file) k
        (record {
          from = omega arith;
          below = omega (arith, f.area);
          refuses = λ q. f.refuses (sym (ap number_of within) ∙ q);
          before = λ j _ p. ap number_of (area-is j) ∙ all_accept (hour_verdict d file j) day_hours (λ i q. f.areas_before j i p q);
        })
        ∙ within

    -- and there is one where they refuse
    first_hour : Refuses (scan (area_refusal days file) 0 (areas_of file)) → (k : ℕ) × (h : ℕ) × FirstHour d file k h
    first_hour r =
        let area = first_of (area_refusal days file) 0 (areas_of file) r in
        let hour = first_of (hour_verdict d file area.0) 0 day_hours (λ q. area.1.refuses (ap number_of (area-is area.0) ∙ q)) in (
          area.0,
          hour.0,
          record {
            area = omega (arith, area.1.below);
            hour = omega (arith, hour.1.below);
            refuses = hour.1.refuses;
            areas_before = λ j i p q. scan_each (hour_verdict d file j) day_hours (sym (ap number_of (area-is j)) ∙ area.1.before j (omega arith) p) i q;
            hours_before = λ i p. hour.1.before i (omega arith) p;
          },
        )

  -- ---- refused with an answer exactly where one of the three gives it

  refused-by : (file : List ℕ) (room : ℕ) → Refuses (settle_by d file room) → RefusedWith d file room (settle_by d file room)
  refused-by file room r =
      dite (ℕ_discrete (number_of (check_of file)) 0)
      (λ z.
      dite (dec_lt room (numbers_needed file))
      (λ short. inr (inl (record { checked = z; short = omega (arith, short); answered = by_room file room z short })))
      (λ enough.
      let roomy : numbers_needed file ≤ room = omega (arith, enough) in
      let areas = by-areas file room z roomy in
      let found = first_hour file (λ q. r (ap number_of areas ∙ q)) in
      inr (inr
      (record {
        checked = z;
        roomy = roomy;
        k = found.0;
        h = found.1;
        first = found.2;
        answered = areas ∙ first-hour-decides file found.0 found.1 found.2;
      }))))
      (λ refuses. inl (record { refuses = refuses; answered = by_check file room refuses }))

  module _ (file : List ℕ) (room : ℕ) (answer : Verdict) where
    check-refuses : CheckRefuses file answer → Refuses answer × (settle_by d file room ≡ answer)
    check-refuses c = rw c.answered (c.refuses, by_check file room c.refuses)

    room-short : RoomShort file room answer → Refuses answer × (settle_by d file room ≡ answer)
    room-short c = rw c.answered ((λ q. omega arith), by_room file room c.checked c.short)

    hour-refuses : HourRefuses d file room answer → Refuses answer × (settle_by d file room ≡ answer)
    hour-refuses c =
        rw c.answered
        (c.first.refuses, by-areas file room c.checked c.roomy ∙ first-hour-decides file c.k c.h c.first)

    refuses-answer : (Refuses answer × (settle_by d file room ≡ answer)) ↔ RefusedWith d file room answer
    refuses-answer =
        ((λ r. subst (RefusedWith d file room) r.1 (refused-by file room (rw r.1 r.0))), ⊎_elim check-refuses (⊎_elim room-short hour-refuses))

abbrev pub RefusesExactly : (ℕ → List ℕ → ℕ) → Type 0
RefusesExactly d =
    (file : List ℕ) (room : ℕ) (answer : Verdict) → (Refuses answer × (settle_by d file room ≡ answer)) ↔ RefusedWith d file room answer

pub refuses_exactly_by : (d : ℕ → List ℕ → ℕ) → RefusesExactly d
refuses_exactly_by d file room answer = refuses-answer d file room answer

-- ---- of `settle`

pub settled_or_untouched : SettledOrUntouched own_days
settled_or_untouched = settled_or_untouched_by own_days

pub refuses_exactly : RefusesExactly own_days
refuses_exactly = refuses_exactly_by own_days

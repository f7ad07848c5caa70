-- A refused day leaves its part as it was; and where the room is enough, each other day comes to what it would without it.
use Prim.Native.Nat.{ℕ, suc, ◌+◌, ◌-◌, ◌≤◌, ◌<◌}
use mathlib.Core.List.{List, ◌∷◌, ◌++◌}
use mathlib.Core.Path.{◌≡◌, sym, ap, ap₂, ◌∙◌}
use native.Mathlib.Omega.{arith}
use lib.IntN.{ℤ}
use lib.ListN.{length, get_or, take, drop, length-append, length-drop, get_or-append}
use lib.Seq.{get_or-append-add, take_at}
use Rattle.verdict.specs.Verdict.{number_of, coded}
use Rattle.contents.specs.File.{areas_of}
use Rattle.settlement.specs.Settlement.{numbers_needed, statement_to, days_by, own_days, settle_of}
use Rattle.settlement.proofs.Room.{check_accepts}
use Rattle.book.specs.Days.{Day}
use Rattle.book.specs.Read.{count_of, days_of}
use Rattle.month_rules.specs.Month.{numbers_taken, places_of, settled_days, settled_day, month_rule}
use Rattle.month_rules.proofs.OneDay.{taken_needed, day_refused, day_settled, day_long}
use Rattle.month_theorems.specs.Parts.{file_in, taken_to, taken_by, rest_of, part_of, statement_left, table_left}
use Rattle.month_theorems.specs.OtherDays.{RefusedStays, SameDay, OtherDays}
use Rattle.month_theorems.proofs.Answers.{coded_zero, zero_coded, with_room}
use Rattle.month_theorems.proofs.Parts.{part_settled, places_at, taken_within}
use Rattle.month_theorems.proofs.OneByOne.{one_by_one}

-- ---- a refused day

-- what settling a file leaves of the numbers that it takes, where the table has `place` for it
module _ (file : List ℕ) (statement : List ℤ) (place : ℕ) (told : place ≡ coded (settle_of file (length statement))) where
  front-stays : (place ≡ 0 → ⊥) → take (numbers_taken file) (settled_day file statement) ≡ take (numbers_taken file) statement
  front-stays bad = ap (take (numbers_taken file)) (day_refused file statement (λ z. bad (told ∙ coded_zero (settle_of file (length statement)) z)))

  front-settled : place ≡ 0 → take (numbers_taken file) (settled_day file statement) ≡ statement_to (days_by own_days file) file (areas_of file)
  front-settled e =
      let own = days_by own_days file in
      let z : number_of (settle_of file (length statement)) ≡ 0 = zero_coded (settle_of file (length statement)) (sym told ∙ e) in
      ap₂ take (taken_needed file (check_accepts own file (length statement) z)) (day_settled file statement z)
      ∙ take_at (statement_to own file (areas_of file)) (drop (numbers_needed file) statement) (numbers_needed file) (day_long file statement z)

pub refused_stays : (room : List ℕ) (statement : List ℤ) (table : List ℕ) → number_of (month_rule room (length table)) ≡ 0 → (i : ℕ) → i < count_of room
    → RefusedStays (days_of room) i statement (statement_left room statement table) (table_left room statement table)
refused_stays room statement table settled i h =
    let day = (one_by_one room statement table settled).each i h in
    record { part = λ bad. day.part ∙ front-stays (file_in (days_of room) i) (rest_of (days_of room) i statement) _ day.place bad }

-- ---- with room for all numbers that the days take, what a day comes to goes by its file alone

module _ (days : List Day) (statement : List ℤ) (enough : taken_by days ≤ length statement) (i : ℕ) (below : i < length days) where
  abbrev file : List ℕ
  file = file_in days i

  abbrev place : ℕ
  place = get_or (places_of (length statement) days) i 0

  place_there : place ≡ coded (settle_of file (length (rest_of days i statement)))
  place_there = places_at days (length statement) i below ∙ ap (λ n. coded (settle_of file n)) (sym (length-drop (taken_to days i) statement))

  -- what settling it into just the numbers that it needs answers; for a day that its check refuses, what the check says
  place-alone : place ≡ coded (settle_of file (numbers_needed file))
  place-alone =
      let room : numbers_taken file ≤ length (rest_of days i statement) =
      omega (arith, taken_within days i (length days) below (omega arith), enough, length-drop (taken_to days i) statement) in
      place_there ∙ ap coded (with_room file _ room)

  part-alone : place ≡ 0 → part_of days i (settled_days days statement) ≡ statement_to (days_by own_days file) file (areas_of file)
  part-alone e = part_settled days i below statement ∙ front-settled file (rest_of days i statement) place place_there e

  part_stays : (place ≡ 0 → ⊥) → part_of days i (settled_days days statement) ≡ part_of days i statement
  part_stays bad = part_settled days i below statement ∙ front-stays file (rest_of days i statement) place place_there bad

same_day : (days : List Day) (statement : List ℤ) (others : List Day) (other : List ℤ) → taken_by days ≤ length statement → taken_by others ≤ length other
    → (i j : ℕ) → i < length days → j < length others → file_in days i ≡ file_in others j → SameDay days i statement others j other
same_day days statement others other enough enough' i j below below' same =
    let alone = ap (λ f. coded (settle_of f (numbers_needed f))) same in
    let place = place-alone days statement enough i below ∙ alone ∙ sym (place-alone others other enough' j below') in
    record {
      place = place;
      settled = λ z.
          part-alone days statement enough i below z
          ∙ ap (λ f. statement_to (days_by own_days f) f (areas_of f)) same
          ∙ sym (part-alone others other enough' j below' (sym place ∙ z));
      refused = λ bad. (part_stays days statement enough i below bad, part_stays others other enough' j below' (λ z. bad (place ∙ z)));
    }

module _ (front : List Day) (day : Day) (behind : List Day) where
  file-before : (j : ℕ) → j < length front → file_in (front ++ (day ∷ behind)) j ≡ file_in (front ++ behind) j
  file-before j h = ap (λ d. d.file) (get_or-append front (day ∷ behind) _ j h ∙ sym (get_or-append front behind _ j h))

  file-after : (j : ℕ) → length front ≤ j → file_in (front ++ (day ∷ behind)) (j + 1) ≡ file_in (front ++ behind) j
  file-after j h =
      let m = j - length front in
      let e : j + 1 ≡ length front + suc m = omega arith in
      let f : length front + m ≡ j = omega arith in
      ap (file_in (front ++ (day ∷ behind))) e
      ∙ ap (λ d. d.file) (get_or-append-add front (day ∷ behind) (suc m) _ ∙ sym (get_or-append-add front behind m _))
      ∙ ap (file_in (front ++ behind)) f

  pub other_days : (statement other : List ℤ) → taken_by (front ++ (day ∷ behind)) ≤ length statement → taken_by (front ++ behind) ≤ length other
      → OtherDays front day behind statement other
  other_days statement other enough enough' =
      let long = length-append front (day ∷ behind) in
      let long' = length-append front behind in
      let same = same_day (front ++ (day ∷ behind)) statement (front ++ behind) other enough enough' in
      record {
        before = λ j h. same j j (omega (arith, long, h)) (omega (arith, long', h)) (file-before j h);
        after = λ j h k. same (j + 1) j (omega (arith, long, long', k)) k (file-after j h);
      }

-- The settlement of a book is that of settling its days one by one; and what comes of it once a day's part does not fit.
use Prim.Native.Nat.{ℕ, zero, suc, ◌+◌, ◌≤◌, ◌<◌}
use mathlib.Core.List.{List, ◌++◌}
use mathlib.Core.Logic.{dite}
use mathlib.Core.Path.{◌≡◌, refl, sym, ap, ◌∙◌}
use native.Mathlib.Decide.{dec_lt}
use native.Mathlib.Omega.{arith}
use lib.IntN.{ℤ}
use lib.ListN.{length, get_or, drop, length-drop, get_or-append}
use lib.Seq.{drop_at}
use Rattle.verdict.specs.Verdict.{number_of, coded}
use Rattle.dayfile.specs.Check.{check_of}
use Rattle.settlement.specs.Settlement.{numbers_needed, settle_of}
use Rattle.book.specs.Days.{Day}
use Rattle.book.specs.Read.{count_of, days_from, days_of}
use Rattle.month_rules.specs.Month.{places_of, settled_days, month_rule}
use Rattle.month_rules.proofs.OneDay.{taken_needed}
use Rattle.month_rules.proofs.Rule.{statement_settled, table_told}
use Rattle.month_theorems.specs.Parts.{file_in, taken_to, rest_of, statement_left, table_left}
use Rattle.month_theorems.specs.OneByOne.{ByItself, OneByOne, DoesNotFit, OnceThirteen}
use Rattle.month_theorems.proofs.Answers.{by_check, by_room, some_needed}
use Rattle.month_theorems.proofs.Parts.{part_settled, behind_stays, rest_stays, places_at, places_length, taken_within}

days_counted : (room : List ℕ) (k m : ℕ) → length (days_from room k m) ≡ m
unfolding days_from
days_counted room k zero = refl
days_counted room k (suc m) = ap suc (days_counted room (suc k) m)

-- the places of the days stand at the front of the table
place_told : (days : List Day) (left : ℕ) (past : List ℕ) (i : ℕ) → i < length days
    → get_or (places_of left days ++ past) i 0 ≡ get_or (places_of left days) i 0
place_told days left past i h = get_or-append (places_of left days) past 0 i (omega (arith, places_length days left))

module _ (room : List ℕ) (statement : List ℤ) (table : List ℕ) (settled : number_of (month_rule room (length table)) ≡ 0) where
  abbrev days : List Day
  days = days_of room

  left : statement_left room statement table ≡ settled_days days statement
  left = statement_settled room (month_rule room (length table)) statement settled

  told : table_left room statement table ≡ places_of (length statement) days ++ drop (count_of room) table
  told = table_told room (month_rule room (length table)) (length statement) table settled

  count : length days ≡ count_of room
  count = days_counted room 0 (count_of room)

  by_itself : (i : ℕ) → i < count_of room → ByItself days i statement (statement_left room statement table) (table_left room statement table)
  by_itself i h =
      let below : i < length days = omega (arith, count) in
      rw (left, told)
      (record {
        rest = length-drop (taken_to days i) statement;
        place =
            place_told days (length statement) (drop (count_of room) table) i below
            ∙ places_at days (length statement) i below
            ∙ ap (λ n. coded (settle_of (file_in days i) n)) (sym (length-drop (taken_to days i) statement));
        part = part_settled days i below statement;
      })

  pub one_by_one : OneByOne room statement (statement_left room statement table) table (table_left room statement table)
  one_by_one =
      record {
        each = by_itself;
        behind = ap (drop (taken_to days (count_of room))) left ∙ behind_stays days (count_of room) statement (omega (arith, count));
        past =
            ap (drop (count_of room)) told
            ∙ drop_at (places_of (length statement) days) (drop (count_of room) table) (count_of room) (places_length days (length statement) ∙ count);
      }

  module _ (i : ℕ) (fit : DoesNotFit room i statement) where
    -- what is left for day i, and for each day behind it, is too short
    short-from : (j : ℕ) → i ≤ j → j < count_of room → number_of (check_of (file_in days j)) ≡ 0
        → length (rest_of days j statement) < numbers_needed (file_in days j)
    short-from j h k passes =
        let rest = length-drop (taken_to days j) statement in
        let some = some_needed (file_in days j) passes in
        dite (dec_lt i j)
        (λ later. omega (arith, rest, some, fit.short, taken_within days i j later (omega (arith, count)), taken_needed (file_in days i) fit.passes))
        (λ same. let e : i ≡ j = omega (arith, same) in omega (arith, rest, some, fit.short, ap (λ k. taken_to days k + numbers_needed (file_in days k)) e))

    pub once_thirteen : OnceThirteen room i statement (statement_left room statement table) (table_left room statement table)
    once_thirteen =
        let short = short-from i (omega arith) fit.there fit.passes in
        let is = by_room (file_in days i) fit.passes (length (rest_of days i statement)) short in
        record {
          thirteen = λ j h k passes. (by_itself j k).place ∙ ap coded (by_room (file_in days j) passes _ (short-from j h k passes));
          checked = λ j h k bad. (by_itself j k).place ∙ ap coded (by_check (file_in days j) _ bad);
          stays =
              ap (drop (taken_to days i)) left
              ∙ rest_stays days i (omega (arith, count, fit.there)) statement (λ z. omega (arith, ap number_of is, z))
              (omega (arith, short, taken_needed (file_in days i) fit.passes));
        }

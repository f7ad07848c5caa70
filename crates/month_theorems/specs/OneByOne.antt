-- "The result is that of settling them one by one": what the settlement of a book leaves, `left` of the statement and `told` of the table.
use Rattle.std.specs.Prelude.{ℕ, ◌+◌, ◌-◌, ◌≤◌, ◌<◌, List, ◌≡◌, ℤ, length, get_or, take, drop, Err}
use Rattle.verdict.specs.declared.Refusal.TheVariants.{RoomTooShort}
use Rattle.verdict.specs.Verdict.{number_of, coded}
use Rattle.dayfile.specs.Check.{check_of}
use Rattle.settlement.specs.Settlement.{numbers_needed, settle_of}
use Rattle.book.specs.Days.{Day}
use Rattle.book.specs.Read.{count_of, days_of}
use Rattle.month_rules.specs.Month.{numbers_taken, settled_day}
use Rattle.month_theorems.specs.Parts.{file_in, taken_to, rest_of, part_of}

-- day i, from 0, is settled by itself, into the rest of the statement behind the parts before it
pub record ByItself (days : List Day) (i : ℕ) (statement left : List ℤ) (told : List ℕ) : Type 0 where
  -- that rest: all numbers but those that the days before it take, and none where these take more than there are
  pub rest : length (rest_of days i statement) ≡ length statement - taken_to days i
  -- its place of the table is what settling it there answers
  pub place : get_or told i 0 ≡ coded (settle_of (file_in days i) (length (rest_of days i statement)))
  -- its part is what settling it there leaves
  pub part : part_of days i left ≡ take (numbers_taken (file_in days i)) (settled_day (file_in days i) (rest_of days i statement))

pub record OneByOne (room : List ℕ) (statement left : List ℤ) (table told : List ℕ) : Type 0 where
  pub each : (i : ℕ) → i < count_of room → ByItself (days_of room) i statement left told
  -- numbers behind the parts stay
  pub behind : drop (taken_to (days_of room) (count_of room)) left ≡ drop (taken_to (days_of room) (count_of room)) statement
  -- "places past the days stay"
  pub past : drop (count_of room) told ≡ drop (count_of room) table

-- ---- "Once a day's part doesn't fit"

module _ (room : List ℕ) (i : ℕ) where
  -- day i passes its check, and its part does not fit
  pub record DoesNotFit (statement : List ℤ) : Type 0 where
    pub there : i < count_of room
    pub passes : number_of (check_of (file_in (days_of room) i)) ≡ 0
    pub short : length statement < taken_to (days_of room) i + numbers_needed (file_in (days_of room) i)

  pub record OnceThirteen (statement left : List ℤ) (told : List ℕ) : Type 0 where
    -- "it and every later day that passes its check get 13, each with its own numbers needed": whatever the room, and also where 16, 11 or 12 would refuse it
    pub thirteen : (j : ℕ) → i ≤ j → j < count_of room → number_of (check_of (file_in (days_of room) j)) ≡ 0
        → get_or told j 0 ≡ coded (Err (RoomTooShort (numbers_needed (file_in (days_of room) j))))
    -- a later day that its check refuses gets what the check says
    pub checked : (j : ℕ) → i ≤ j → j < count_of room → (number_of (check_of (file_in (days_of room) j)) ≡ 0 → ⊥)
        → get_or told j 0 ≡ coded (check_of (file_in (days_of room) j))
    -- from its part on nothing is written
    pub stays : rest_of (days_of room) i left ≡ rest_of (days_of room) i statement

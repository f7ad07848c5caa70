-- "a refused day leaves its part as it was and the others go on": what the other days come to with a day and without it.
use Rattle.std.specs.Prelude.{ℕ, ◌+◌, ◌≤◌, ◌<◌, List, ◌∷◌, ◌++◌, ◌≡◌, ℤ, length, get_or}
use Rattle.book.specs.Days.{Day}
use Rattle.month_rules.specs.Month.{places_of, settled_days}
use Rattle.month_theorems.specs.Parts.{part_of}

-- day i, from 0, of a settled book: `left` of the statement and `told` of the table
pub record RefusedStays (days : List Day) (i : ℕ) (statement left : List ℤ) (told : List ℕ) : Type 0 where
  -- where its place is a refusal, every number of its part is as it was
  pub part : (get_or told i 0 ≡ 0 → ⊥) → part_of days i left ≡ part_of days i statement

-- day i of some days, settled into one statement, and day j of others, settled into another, come to the same
pub record SameDay (days : List Day) (i : ℕ) (statement : List ℤ) (others : List Day) (j : ℕ) (other : List ℤ) : Type 0 where
  -- they have the same place in the table
  pub place : get_or (places_of (length statement) days) i 0 ≡ get_or (places_of (length other) others) j 0
  -- where it is 0, settled, they have the same part
  pub settled : get_or (places_of (length statement) days) i 0 ≡ 0 → part_of days i (settled_days days statement) ≡ part_of others j (settled_days others other)
  -- and where it is a refusal, each part is as it was
  pub refused : (get_or (places_of (length statement) days) i 0 ≡ 0 → ⊥)
      → (part_of days i (settled_days days statement) ≡ part_of days i statement) × (part_of others j (settled_days others other) ≡ part_of others j other)

-- `day` between `front` and `behind`, settled into one statement, and the days without it, settled into another, where each has room for all its days
pub record OtherDays (front : List Day) (day : Day) (behind : List Day) (statement other : List ℤ) : Type 0 where
  -- each day before it
  pub before : (j : ℕ) → j < length front → SameDay (front ++ (day ∷ behind)) j statement (front ++ behind) j other
  -- each day after it
  pub after : (j : ℕ) → length front ≤ j → j < length (front ++ behind) → SameDay (front ++ (day ∷ behind)) (j + 1) statement (front ++ behind) j other

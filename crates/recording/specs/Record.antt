-- The record: the last day entered, and the areas with a marked day, rising, each with its marks (docs/RULES.md, section 12).
use Rattle.std.specs.Prelude.{ℕ, ◌+◌, ◌-◌, ◌≤◌, ◌<◌, ◌≡◌, Bool, true, false, cond, List, [], ◌∷◌, ◌++◌, eqb, ltb, length, take, get_or, set, replicate, Option, Some, None}
use Rattle.limits.specs.Editions.{most_held}
use Rattle.marks.specs.Marks.{aged}
use Rattle.recording.specs.declared.Place.{Place}
use Rattle.recording.specs.declared.Record.{Record}

abbrev pub place : ℕ → ℕ → Place
place area marks = record { area = area; marks = marks }

-- the areas that a record holds, with their marks
abbrev pub entries : Record → List Place
entries r = take r.held r.places

-- a list of areas as a record: the places behind them are 0, 0
abbrev pub record_of : ℕ → List Place → Record
record_of last l = record { last = last; held = length l; places = l ++ replicate (most_held - length l) (place 0 0) }

-- an area's marks; 0 where it is not held
unfoldable pub marks_of : ℕ → List Place → ℕ
marks_of area [] = 0
marks_of area (p ∷ l) = cond (eqb p.area area) p.marks (marks_of area l)

-- g days later: each area's marks aged, and only the areas that keep a marked day
unfoldable pub kept : ℕ → List Place → List Place
kept g [] = []
kept g (p ∷ l) = cond (eqb (aged p.marks g) 0) (kept g l) (place p.area (aged p.marks g) ∷ kept g l)

-- the day marked for an area, in its place by number
unfoldable pub marked : ℕ → List Place → List Place
marked area [] = place area 1 ∷ []
marked area (p ∷ l) =
    cond (ltb p.area area) (p ∷ marked area l)
    (cond (eqb p.area area) (place area (p.marks + 1) ∷ l) (place area 1 ∷ p ∷ l))

-- the areas of a day marked, one after the other
unfoldable pub marked_all : List ℕ → List Place → List Place
marked_all [] l = l
marked_all (area ∷ areas) l = marked_all areas (marked area l)

-- ---- what the functions ask and answer

-- one place more
abbrev pub pushed : Record → Place → Record
pushed r p = record { last = r.last; held = r.held + 1; places = set r.places r.held p }

-- a record that is the record of a list of areas that it has room for, each with marks below `most`
pub record Sound (most : ℕ) (r : Record) : Type 0 where
  pub few : r.held ≤ most_held
  pub listed : r ≡ record_of r.last (entries r)
  pub small : (i : ℕ) → (get_or r.places i (place 0 0)).marks < most

abbrev pub pick : Bool → Record → Record → Record
pick true r s = r
pick false r s = s

-- the record of a list; none where a record has no room for it
abbrev pub answered : ℕ → List Place → Option Record
answered last l = cond (ltb most_held (length l)) None (Some (record_of last l))

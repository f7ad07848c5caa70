-- Days entered one after the other, each by its number and the areas that are marked on it, and the areas held after them. The last one is listed
-- first.
use Rattle.std.specs.Prelude.{ℕ, zero, suc, ◌+◌, ◌-◌, ◌<◌, ◌≤◌, ◌≡◌, cond, List, [], ◌∷◌, eqb, leb}
use Rattle.recording.specs.declared.Place.{Place}
use Rattle.recording.specs.Record.{kept, marked_all}
use Rattle.made.specs.Made.{RisingNumbers}

pub record Entry : Type 0 where
  pub day : ℕ
  pub areas : List ℕ

-- the last day entered; 0 where there is none
unfoldable pub last_of : List Entry → ℕ
last_of [] = 0
last_of (e ∷ es) = e.day

-- the areas held after some entries
unfoldable pub held_after : List Entry → List Place
held_after [] = []
held_after (e ∷ es) = marked_all e.areas (kept (e.day - last_of es) (held_after es))

-- 1 where an area stands in a list, 0 where it does not
unfoldable pub one_if : ℕ → List ℕ → ℕ
one_if area [] = 0
one_if area (a ∷ areas) = cond (eqb a area) 1 (one_if area areas)

-- 1 where the entries mark a day for an area, 0 where they do not
unfoldable pub marked_on : List Entry → (day area : ℕ) → ℕ
marked_on [] day area = 0
marked_on (e ∷ es) day area = cond (eqb e.day day) (one_if area e.areas) (marked_on es day area)

-- how many of the n days before a day are marked for an area
unfoldable pub marked_days : List Entry → (day area n : ℕ) → ℕ
marked_days es day area zero = 0
marked_days es day area (suc n) = marked_days es day area n + cond (leb (suc n) day) (marked_on es (day - suc n) area) 0

-- ---- entries in order

-- each of some entries is of a day before `day`
abbrev pub Before : List Entry → ℕ → Type 0
Before [] day = Unit {0}
Before (e ∷ es) day = e.day < day

-- each on a later day than the one before it, its areas rising
abbrev pub InOrder : List Entry → Type 0
InOrder [] = Unit {0}
InOrder (e ∷ es) = RisingNumbers 0 e.areas × Before es e.day × InOrder es

-- ---- the areas held

-- they rise, each at least `low`
abbrev pub Rising : ℕ → List Place → Type 0
Rising low [] = Unit {0}
Rising low (p ∷ l) = (low ≤ p.area) × Rising (p.area + 1) l

-- each has a marked day
abbrev pub AllMarked : List Place → Type 0
AllMarked [] = Unit {0}
AllMarked (p ∷ l) = (p.marks ≡ 0 → ⊥) × AllMarked l

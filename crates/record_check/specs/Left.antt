-- Whether a record is one that accepted entries leave (14), and whether a trading day comes after the last day entered (18) (docs/RULES.md, section 12).
-- That 14 is given exactly for the records that no list of accepted entries leaves is the theorem `record-exactly`.
use Rattle.std.specs.Prelude.{ℕ, ◌+◌, ◌-◌, ◌^◌, min, Bool, true, cond, ◌&&◌, List, [], ◌∷◌, eqb, leb, ltb, drop}
use Rattle.limits.specs.Ranges.{recorded_days, largest_number}
use Rattle.limits.specs.Editions.{most_held}
use Rattle.verdict.specs.Verdict.{Accepted, Verdict}
use Rattle.verdict.specs.declared.Refusal.TheVariants.{BadRecord, DayNotAfter}
use Rattle.verdict.specs.First.{rule◌else◌then◌, ◌or_else◌}
use Rattle.calendar.specs.Date.{real_date}
use Rattle.calendar.specs.DayNumber.{day_number}
use Rattle.contents.specs.File.{day_of}
use Rattle.dayfile.specs.Check.{check_of}
use Rattle.recording.specs.declared.Place.{Place}
use Rattle.recording.specs.declared.Record.{Record}
use Rattle.recording.specs.Record.{entries}

-- marks below it have no bit past the thirty days, and none of a day before the first, which has number 0
abbrev pub marks_end : ℕ → ℕ
marks_end day = 2 ^ min recorded_days (day + 1)

-- an area held, of a number from `low` on: it has a marked day, and its marks are below `end`
unfoldable pub place_left : (end low : ℕ) → Place → Bool
place_left end low p = leb low p.area && leb p.area largest_number && leb 1 p.marks && ltb p.marks end

-- the areas held: their numbers rise
unfoldable pub places_left : (end low : ℕ) → List Place → Bool
places_left end low [] = true
places_left end low (p ∷ l) = place_left end low p && places_left end (p.area + 1) l

-- a place that holds no area
unfoldable pub place_empty : Place → Bool
place_empty p = eqb p.area 0 && eqb p.marks 0

-- the places behind the areas held
unfoldable pub unused_empty : List Place → Bool
unused_empty [] = true
unused_empty (p ∷ l) = place_empty p && unused_empty l

-- the last day entered: a real date, or 0 where nothing was entered, and then nothing is held
abbrev pub last_left : Record → Bool
last_left r = cond (eqb r.last 0) (eqb r.held 0) (real_date r.last)

unfoldable pub record_left : Record → Bool
record_left r =
    leb r.held most_held && last_left r && places_left (marks_end (day_number r.last)) 1 (entries r) && unused_empty (drop r.held r.places)

-- 14, then 18: "day not after the last one entered"
unfoldable pub record_rule : Record → (date : ℕ) → Verdict
record_rule r date =
    rule record_left r else BadRecord then
    rule ltb r.last date else DayNotAfter then
    Accepted

-- the check's 1 to 10 before that
unfoldable pub admit_rule : Record → (file : List ℕ) → Verdict
admit_rule r file = check_of file or_else record_rule r (day_of file)

-- the calendar days between the last day entered and a later date
abbrev pub days_between : Record → (date : ℕ) → ℕ
days_between r date = day_number date - day_number r.last

-- The test of a record, place by place, and what it tells.
use Prim.Native.Nat.{ℕ, ◌+◌, ◌-◌, ◌<◌, ◌≤◌}
use mathlib.Core.Path.{◌≡◌, sym, ap, ◌∙◌}
use mathlib.Core.Bool.{Bool, true, false, ◌&&◌}
use mathlib.Core.List.{List}
use mathlib.Core.Logic.{dite}
use native.Mathlib.Decide.{ℕ_discrete}
use native.Mathlib.Omega.{arith}
use lib.Dec.{leb, ltb}
use lib.ListN.{length, get_or, drop, drop_of_length-le}
use borrow.Author.Tests.{eq-eqb, ne_eqb, eqb-true, leb-true, ltb-true}
use Rattle.exact.proofs.Filling.{drop_next}
use Rattle.limits.specs.Ranges.{recorded_days, largest_number, most_days}
use Rattle.limits.specs.Editions.{most_held}
use Rattle.verdict.specs.Verdict.{number_of, Accepted}
use Rattle.verdict.proofs.First.{both, kept, or_first, or_second}
use Rattle.calendar.specs.Date.{real_date}
use Rattle.calendar.specs.DayNumber.{day_number}
use Rattle.calendar.proofs.DayNumber.{rising}
use Rattle.marks.specs.Marks.{counted}
use Rattle.marks.proofs.Bits.{bits_most, bits_none}
use Rattle.contents.specs.File.{day_of}
use Rattle.dayfile.specs.Check.{check_of}
use Rattle.recording.specs.declared.Place.{Place}
use Rattle.recording.specs.declared.Record.{Record}
use Rattle.recording.specs.Record.{entries, marks_of}
use Rattle.record_check.specs.Left.{marks_end, place_left, places_left, place_empty, unused_empty, last_left, record_left, record_rule, admit_rule, days_between}

-- ---- a place

pub record PlaceKept (end low : ℕ) (p : Place) : Type 0 where
  pub above : low ≤ p.area
  pub known : p.area ≤ largest_number
  pub marked : 1 ≤ p.marks
  pub small : p.marks < end

pub place_kept : (end low : ℕ) (p : Place) → place_left end low p ≡ true → PlaceKept end low p
unfolding place_left
place_kept end low p t =
    let a = both (leb low p.area && leb p.area largest_number && leb 1 p.marks) (ltb p.marks end) t in
    let b = both (leb low p.area && leb p.area largest_number) (leb 1 p.marks) a.0 in
    let c = both (leb low p.area) (leb p.area largest_number) b.0 in
    record { above = leb-true _ _ c.0; known = leb-true _ _ c.1; marked = leb-true _ _ b.1; small = ltb-true _ _ a.1 }

-- ---- one turn of the two loops

module _ (end low : ℕ) (l : List Place) (k : ℕ) (d : Place) (whole : Bool) (inside : k < length l)
    (stands : whole ≡ places_left end low (drop k l)) where
  opened : whole ≡ (place_left end low (get_or l k d) && places_left end ((get_or l k d).area + 1) (drop (k + 1) l))
  unfolding places_left
  opened = stands ∙ ap (places_left end low) (drop_next l k d inside)

  pub places_stop : place_left end low (get_or l k d) ≡ false → false ≡ whole
  places_stop e = sym (opened ∙ rw e)

  pub places_next : place_left end low (get_or l k d) ≡ true → whole ≡ places_left end ((get_or l k d).area + 1) (drop (k + 1) l)
  places_next e = opened ∙ rw e

pub places_done : (end low : ℕ) (l : List Place) (k : ℕ) (whole : Bool) → length l ≤ k → whole ≡ places_left end low (drop k l) → true ≡ whole
unfolding places_left
places_done end low l k whole h stands = sym (stands ∙ ap (places_left end low) (drop_of_length-le l h))

module _ (l : List Place) (k : ℕ) (d : Place) (whole : Bool) (inside : k < length l) (stands : whole ≡ unused_empty (drop k l)) where
  shown : whole ≡ (place_empty (get_or l k d) && unused_empty (drop (k + 1) l))
  unfolding unused_empty
  shown = stands ∙ ap unused_empty (drop_next l k d inside)

  pub unused_stop : place_empty (get_or l k d) ≡ false → false ≡ whole
  unused_stop e = sym (shown ∙ rw e)

  pub unused_next : place_empty (get_or l k d) ≡ true → whole ≡ unused_empty (drop (k + 1) l)
  unused_next e = shown ∙ rw e

pub unused_done : (l : List Place) (k : ℕ) (whole : Bool) → length l ≤ k → whole ≡ unused_empty (drop k l) → true ≡ whole
unfolding unused_empty
unused_done l k whole h stands = sym (stands ∙ ap unused_empty (drop_of_length-le l h))

-- ---- a record that passes

-- the last day entered is a real date, or there is none and nothing is held
pub record LastKept (r : Record) : Type 0 where
  pub real : (r.last ≡ 0 → ⊥) → real_date r.last ≡ true
  pub none : r.last ≡ 0 → r.held ≡ 0

pub last_kept : (r : Record) → last_left r ≡ true → LastKept r
last_kept r t =
    record {
      real = λ n. rw (ne_eqb r.last 0 n) at t;
      none = λ e. eqb-true r.held 0 (rw (eq-eqb r.last 0 e) at t);
    }

pub record Kept (r : Record) : Type 0 where
  pub few : r.held ≤ most_held
  pub last : LastKept r
  pub places : places_left (marks_end (day_number r.last)) 1 (entries r) ≡ true
  pub unused : unused_empty (drop r.held r.places) ≡ true

pub record_kept : (r : Record) → record_left r ≡ true → Kept r
unfolding record_left
record_kept r t =
    let places = places_left (marks_end (day_number r.last)) 1 (entries r) in
    let a = both (leb r.held most_held && last_left r && places) (unused_empty (drop r.held r.places)) t in
    let b = both (leb r.held most_held && last_left r) places a.0 in
    let c = both (leb r.held most_held) (last_left r) b.0 in
    record { few = leb-true _ _ c.0; last = last_kept r c.1; places = b.1; unused = a.1 }

-- ---- what the rule says where it accepts

pub record Before (r : Record) (date : ℕ) : Type 0 where
  pub left : Kept r
  pub after : r.last < date

pub record_before : (r : Record) (date : ℕ) → number_of (record_rule r date) ≡ 0 → Before r date
unfolding record_rule
record_before r date z =
    let a = kept (record_left r) _ _ z in
    let b = kept (ltb r.last date) _ Accepted a.1 in
    record { left = record_kept r a.0; after = ltb-true r.last date b.0 }

-- a file and a record that are admitted
pub record Admitted (r : Record) (file : List ℕ) : Type 0 where
  pub checked : number_of (check_of file) ≡ 0
  pub judged : number_of (record_rule r (day_of file)) ≡ 0

pub admitted : (r : Record) (file : List ℕ) → number_of (admit_rule r file) ≡ 0 → Admitted r file
unfolding admit_rule
admitted r file z = record { checked = or_first (check_of file) _ z; judged = or_second (check_of file) _ z }

-- no area has more marked days than the thirty before a day
pub days_few : (r : Record) (date area : ℕ) → Before r date → counted (marks_of area (entries r)) (days_between r date) ≤ most_days
unfolding marks_of
days_few r date area b =
    dite (ℕ_discrete r.last 0)
    (λ e. let none : r.held ≡ 0 = b.left.last.none e in rw none (omega (arith, bits_none (recorded_days + 1 - days_between r date))))
    (λ n. omega (
      arith,
      bits_most (marks_of area (entries r)) (recorded_days + 1 - days_between r date),
      rising r.last date (b.left.last.real n)
          b.after,
    ))

-- A record passes the test exactly where it is the empty one, or the record of a list that may be left on its last day.
use Prim.Native.Nat.{ℕ, zero, suc, ◌+◌, ◌-◌, ◌<◌, ◌≤◌, ◌^◌, min}
use mathlib.Core.Path.{◌≡◌, refl, sym, ap, ap₂, ◌∙◌}
use mathlib.Core.Bool.{true}
use mathlib.Core.List.{List, [], ◌∷◌, ◌++◌}
use mathlib.Core.Logic.{◌⊎◌, inl, inr, ⊎_elim, dite}
use native.Mathlib.Decide.{ℕ_discrete}
use native.Mathlib.Omega.{arith}
use native.Mathlib.Nat.{pow-le-pow_right, one-le-pow}
use lib.Dec.{eqb}
use lib.ListN.{length, take, drop, replicate, length-take, length-drop, take-append-drop}
use lib.Seq.{drop_at}
use borrow.Author.Tests.{le-leb, lt-ltb, eqb-true, ne_eqb}
use Rattle.verdict.proofs.First.{both}
use Rattle.limits.specs.Ranges.{recorded_days}
use Rattle.limits.specs.Editions.{most_held}
use Rattle.calendar.specs.DayNumber.{day_number}
use Rattle.calendar.proofs.DayNumber.{real_parts}
use Rattle.marks.proofs.Bits.{high_clear, below_of_clear}
use Rattle.recording.specs.declared.Place.{Place}
use Rattle.recording.specs.declared.Record.{Record}
use Rattle.recording.specs.Record.{place, entries, record_of, marks_of}
use Rattle.recording.proofs.AreaMarks.{marks_here, marks_past}
use Rattle.recording.proofs.InPlace.{entries_of_lem}
use Rattle.record_check.specs.Left.{marks_end, place_left, places_left, place_empty, unused_empty, record_left}
use Rattle.record_check.proofs.Left.{PlaceKept, place_kept, Kept, record_kept}
use Rattle.record_theorems.specs.Entries.{Rising, AllMarked}
use Rattle.record_theorems.specs.Left.{AreasKnown, MayBeLeft}
use Rattle.record_theorems.specs.Files.{empty_record}
use Rattle.record_theorems.proofs.EntriesLaws.{rising_from, absent}

-- ---- the areas held

record Tested (end low : ℕ) (l : List Place) : Type 0 where
  rises : Rising low l
  marks : AllMarked l
  known : AreasKnown l
  small : (area : ℕ) → marks_of area l < end

tested : (end low : ℕ) (l : List Place) → 0 < end → places_left end low l ≡ true → Tested end low l
unfolding places_left marks_of
tested end low [] z t = record { rises = tt; marks = tt; known = tt; small = λ area. z }
tested end low (p ∷ l) z t =
    let a = both (place_left end low p) (places_left end (p.area + 1) l) t in
    let here = place_kept end low p a.0 in
    let rest = tested end (p.area + 1) l z a.1 in
    record {
      rises = (here.above, rest.rises);
      marks = ((λ e. omega (arith, here.marked)), rest.marks);
      known = (here.known, rest.known);
      small = λ area. dite (ℕ_discrete p.area area)
          (λ e. rw (marks_here area p l e) here.small)
          (λ e. rw (marks_past area p l e) (rest.small area));
    }

place_so : (end low : ℕ) (p : Place) → PlaceKept end low p → place_left end low p ≡ true
unfolding place_left
place_so end low p k = simp (le-leb _ _ k.above, le-leb _ _ k.known, le-leb _ _ k.marked, lt-ltb _ _ k.small)

passes : (end low : ℕ) (l : List Place) → Tested end low l → places_left end low l ≡ true
unfolding places_left
passes end low [] t = refl
passes end low (p ∷ l) t =
    let small : p.marks < end = rw (marks_here p.area p l refl) at (t.small p.area) in
    rw (place_so end low p (record { above = t.rises.0; known = t.known.0; marked = omega (arith, t.marks.0); small = small }))
    (passes end (p.area + 1) l
    (record {
      rises = t.rises.1;
      marks = t.marks.1;
      known = t.known.1;
      small = λ area. dite (ℕ_discrete p.area area)
          (λ e. rw (absent area (p.area + 1) l t.rises.1 (omega arith)) (omega arith))
          (λ e. rw (marks_past area p l e) at (t.small area));
    }))

-- ---- the places behind them

unused_all : (l : List Place) → unused_empty l ≡ true → l ≡ replicate (length l) (place 0 0)
unfolding unused_empty place_empty
unused_all [] t = refl
unused_all (p ∷ l) t =
    let a = both (place_empty p) (unused_empty l) t in
    let b = both (eqb p.area 0) (eqb p.marks 0) a.0 in
    ap₂ ◌∷◌ (ap₂ place (eqb-true p.area 0 b.0) (eqb-true p.marks 0 b.1)) (unused_all l a.1)

unused_none : (n : ℕ) → unused_empty (replicate n (place 0 0)) ≡ true
unfolding unused_empty place_empty
unused_none zero = refl
unused_none (suc n) = unused_none n

-- ---- the record

pub listed : (r : Record) → length r.places ≡ most_held → Kept r → r ≡ record_of r.last (entries r)
listed r whole k = ap₂ with-places held-is places-are
  where
    with-places : ℕ → List Place → Record
    with-places n places = record { last = r.last; held = n; places = places }

    held-is : r.held ≡ length (entries r)
    held-is = omega (arith, length-take r.held r.places, k.few, whole)

    places-are : r.places ≡ entries r ++ replicate (most_held - length (entries r)) (place 0 0)
    places-are =
        let behind = drop r.held r.places in
        let n : length behind ≡ most_held - length (entries r) = omega (arith, length-drop r.held r.places, held-is, whole) in
        sym (take-append-drop r.held r.places) ∙ ap (λ l. entries r ++ l) (unused_all behind k.unused ∙ ap (λ m. replicate m (place 0 0)) n)

abbrev pub Passes : Record → Type 0
Passes r = (r ≡ empty_record) ⊎ ((r ≡ record_of r.last (entries r)) × MayBeLeft r.last (entries r))

may_of : (r : Record) → Kept r → (r.last ≡ 0 → ⊥) → length (entries r) ≤ most_held → MayBeLeft r.last (entries r)
may_of r k some few =
    let day = day_number r.last in
    let n = min recorded_days (day + 1) in
    let t = tested (2 ^ n) 1 (entries r) (one-le-pow n 2 (omega arith)) k.places in
    let m : n ≤ recorded_days = omega arith in
    let p : 2 ^ n ≤ 2 ^ recorded_days = pow-le-pow_right {n = 2} (omega arith) m in
    record {
      real = k.last.real some;
      left = record {
        few = few;
        rising = rising_from 0 1 (entries r) (omega arith) t.rises;
        marked = t.marks;
        within = λ area. omega (arith, t.small area);
        begun = λ area i h q. high_clear (marks_of area (entries r)) n i (t.small area) (omega arith);
      };
      from_one = t.rises;
      known = t.known;
    }

pub test_says : (r : Record) → length r.places ≡ most_held → record_left r ≡ true → Passes r
test_says r whole t =
    let k = record_kept r t in
    let is = listed r whole k in
    dite (ℕ_discrete r.last 0)
    (λ e. inl (is ∙ ap₂ record_of e (ap (λ n. take n r.places) (k.last.none e))))
    (λ n. inr (is, may_of r k n (omega (arith, length-take r.held r.places, k.few))))

empty_left : record_left empty_record ≡ true
unfolding record_left places_left
empty_left = unused_none (most_held - 0)

may_pass : (last : ℕ) (l : List Place) → MayBeLeft last l → record_left (record_of last l) ≡ true
unfolding record_left
may_pass last l may =
    let day = day_number last in
    let places : places_left (marks_end day) 1 (entries (record_of last l)) ≡ true =
    ap (places_left (marks_end day) 1) (entries_of_lem last l)
    ∙ passes (marks_end day) 1 l
    (record {
      rises = may.from_one;
      marks = may.left.marked;
      known = may.known;
      small = λ area. below_of_clear (marks_of area l) recorded_days (min recorded_days (day + 1)) (may.left.within area) (omega arith)
          (λ i h k. may.left.begun area i (omega arith) k);
    }) in
    let behind : unused_empty (drop (length l) (l ++ replicate (most_held - length l) (place 0 0))) ≡ true =
    ap unused_empty (drop_at l (replicate (most_held - length l) (place 0 0)) (length l) refl) ∙ unused_none (most_held - length l) in
    rw (le-leb (length l) most_held may.left.few, ne_eqb last 0 (λ e. omega (arith, (real_parts last may.real).from)), may.real, places, behind)

pub test_so : (r : Record) → Passes r → record_left r ≡ true
test_so r p =
    ⊎_elim (λ (e : r ≡ empty_record). ap record_left e ∙ empty_left)
    (λ (m : (r ≡ record_of r.last (entries r)) × MayBeLeft r.last (entries r)). ap record_left m.0 ∙ may_pass r.last (entries r) m.1)
    p

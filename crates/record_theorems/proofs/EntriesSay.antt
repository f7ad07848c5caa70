-- The record after any list of accepted entries is what the list says: its last day is the last file's, an area is held exactly if some file of
-- the last thirty days marks it, and bit i of its marks is set exactly if the file of the day i days before marks it.
use Prim.Native.Nat.{ℕ, zero, suc, ◌+◌, ◌-◌, ◌<◌, ◌≤◌}
use mathlib.Core.Bool.{Bool, true, false}
use mathlib.Core.List.{List, [], ◌∷◌}
use mathlib.Core.Logic.{dite}
use mathlib.Core.Path.{◌≡◌, refl, sym, ap, ◌∙◌}
use native.Mathlib.Decide.{dec_lt, ℕ_discrete}
use native.Mathlib.Omega.{arith}
use lib.ListN.{length, get_or}
use lib.Seq.{get_or-take}
use borrow.Author.Tests.{eq-eqb, ne_eqb}
use Rattle.limits.specs.Ranges.{recorded_days}
use Rattle.calendar.specs.DayNumber.{day_number}
use Rattle.contents.specs.File.{day_of, areas_of, number_at, body_at}
use Rattle.marks.specs.Marks.{bit_at}
use Rattle.marks.proofs.Bits.{some_bit, no_bit}
use Rattle.recording.specs.declared.Place.{Place}
use Rattle.recording.specs.declared.Record.{Record}
use Rattle.recording.specs.Record.{place, entries, marks_of}
use Rattle.recording.proofs.AreaMarks.{marks_here, marks_past}
use Rattle.recording.proofs.InPlace.{entries_of_lem, listed_of}
use Rattle.marking.specs.Marked.{Marked, marked_in, marked_from}
use Rattle.marking.proofs.MarkedAreas.{marked_so, marked_says}
use Rattle.record_theorems.specs.Entries.{Entry, last_of, held_after, one_if, marked_on, AllMarked, InOrder}
use Rattle.record_theorems.specs.Files.{after_files, AllEntered, last_day, file_at, MarkedBy}
use Rattle.record_theorems.specs.Files.{MarkedBefore, MarkedWithin, Held, EntriesSay, entries_of}
use Rattle.record_theorems.proofs.EntriesLaws.{one_here, one_past, last_before, what_the_entries_say, none_before_the_first}
use Rattle.record_theorems.proofs.Determined.{all_after}
use Rattle.record_theorems.proofs.LeftByEntries.{left_by_entries}
use Rattle.record_theorems.proofs.FilesLeave.{FilesLeave, files_leave, last_number}

-- ---- the areas that a file marks

-- area k of a file has that number, and is marked
record MarkedAt (file : List ℕ) (area from many : ℕ) : Type 0 where
  k : ℕ
  above : from ≤ k
  below : k < from + many
  number : number_at file k ≡ area
  marked : marked_in (body_at file k) ≡ true

module _ (file : List ℕ) (area : ℕ) where
  from_in : (k m : ℕ) → marked_in (body_at file k) ≡ true → marked_from file k (suc m) ≡ number_at file k ∷ marked_from file (suc k) m
  unfolding marked_from
  from_in k m t = rw t

  from_out : (k m : ℕ) → marked_in (body_at file k) ≡ false → marked_from file k (suc m) ≡ marked_from file (suc k) m
  unfolding marked_from
  from_out k m t = rw t

  later : (k m : ℕ) → MarkedAt file area (suc k) m → MarkedAt file area k (suc m)
  later k m a = record { k = a.k; above = omega (arith, a.above); below = omega (arith, a.below); number = a.number; marked = a.marked }

  one-says : (k m : ℕ) → one_if area (marked_from file k m) ≡ 1 → MarkedAt file area k m
  unfolding marked_from one_if
  one-says k zero e = absurd (omega arith)
  one-says k (suc m) e = by (marked_in (body_at file k)) refl (one-says (suc k) m) e
    where
      by : (t : Bool) → marked_in (body_at file k) ≡ t → (one_if area (marked_from file (suc k) m) ≡ 1 → MarkedAt file area (suc k) m)
          → one_if area (marked_from file k (suc m)) ≡ 1 → MarkedAt file area k (suc m)
      by true t rest e =
          let f = sym (ap (one_if area) (from_in k m t)) ∙ e in
          dite (ℕ_discrete (number_at file k) area)
          (λ n. record { k = k; above = omega arith; below = omega arith; number = n; marked = t })
          (λ n. later k m (rest (sym (one_past area (marked_from file (suc k) m) (number_at file k) n) ∙ f)))
      by false t rest e = later k m (rest (sym (ap (one_if area) (from_out k m t)) ∙ e))

  one-so : (k m : ℕ) → MarkedAt file area k m → one_if area (marked_from file k m) ≡ 1
  one-so k zero a = absurd (omega (arith, a.above, a.below))
  one-so k (suc m) a =
      dite (ℕ_discrete a.k k)
      (λ e.
      let t : marked_in (body_at file k) ≡ true = rw e at a.marked in
      ap (one_if area) (from_in k m t) ∙ one_here area (marked_from file (suc k) m) (number_at file k) (rw e at a.number))
      (λ e.
      let there : MarkedAt file area (suc k) m =
      record { k = a.k; above = omega (arith, a.above, e); below = omega (arith, a.below); number = a.number; marked = a.marked } in
      let rest = one-so (suc k) m there in
      by (marked_in (body_at file k)) refl rest)
    where
      by : (t : Bool) → marked_in (body_at file k) ≡ t → one_if area (marked_from file (suc k) m) ≡ 1 → one_if area (marked_from file k (suc m)) ≡ 1
      by true t rest =
          ap (one_if area) (from_in k m t)
          ∙ dite (ℕ_discrete (number_at file k) area)
          (λ n. one_here area (marked_from file (suc k) m) (number_at file k) n)
          (λ n. one_past area (marked_from file (suc k) m) (number_at file k) n ∙ rest)
      by false t rest = ap (one_if area) (from_out k m t) ∙ rest

-- ---- the days that a list of files marks

module _ (day area : ℕ) where
  pub on_here : (e : Entry) (es : List Entry) → e.day ≡ day → marked_on (e ∷ es) day area ≡ one_if area e.areas
  unfolding marked_on
  on_here e es h = simp (eq-eqb e.day day h)

  pub on_past : (e : Entry) (es : List Entry) → (e.day ≡ day → ⊥) → marked_on (e ∷ es) day area ≡ marked_on es day area
  unfolding marked_on
  on_past e es h = simp (ne_eqb e.day day h)

  pub on_says : (files : List (List ℕ)) → marked_on (entries_of files) day area ≡ 1 → MarkedBy files day area
  unfolding entries_of marked_on
  on_says [] e = absurd (omega arith)
  on_says (file ∷ files) e =
      dite (ℕ_discrete (day_number (day_of file)) day)
      (λ h.
      let a = one-says file area 0 (areas_of file) (sym (on_here _ (entries_of files) h) ∙ e) in
      record {
        j = 0;
        listed = omega arith;
        of_day = h;
        k = a.k;
        among = omega (arith, a.below);
        number = a.number;
        marked = marked_says _ a.marked;
      })
      (λ h.
      let m = on_says files (sym (on_past _ (entries_of files) h) ∙ e) in
      record {
        j = suc m.j;
        listed = omega (arith, m.listed);
        of_day = m.of_day;
        k = m.k;
        among = m.among;
        number = m.number;
        marked = m.marked;
      })

  -- no file of the list is of a day after the last one
  older : (files : List (List ℕ)) → InOrder (entries_of files) → (j : ℕ) → j < length files
      → day_number (day_of (file_at files j)) ≤ last_of (entries_of files)
  unfolding entries_of last_of
  older [] o j h = absurd (omega arith)
  older (file ∷ files) o zero h = omega arith
  older (file ∷ files) o (suc j) h = omega (arith, older files o.2 j (omega arith), last_before (entries_of files) _ o.1)

  earlier : (file : List ℕ) (files : List (List ℕ)) → InOrder (entries_of (file ∷ files)) → (j : ℕ) → j < length files
      → day_number (day_of (file_at files j)) < day_number (day_of file)
  unfolding entries_of last_of
  earlier file [] o j h = absurd (omega arith)
  earlier file (next ∷ files) o j h = omega (arith, older (next ∷ files) o.2 j h, o.1)

  pub on_so : (files : List (List ℕ)) → InOrder (entries_of files) → MarkedBy files day area → marked_on (entries_of files) day area ≡ 1
  unfolding entries_of
  on_so [] o m = absurd (omega (arith, m.listed))
  on_so (file ∷ files) o m = by m.j m.listed m.of_day m.among m.number m.marked (on_so files o.2)
    where
      by : (j : ℕ) → j < length (file ∷ files) → day_number (day_of (file_at (file ∷ files) j)) ≡ day → m.k < areas_of (file_at (file ∷ files) j)
          → number_at (file_at (file ∷ files) j) m.k ≡ area → Marked (body_at (file_at (file ∷ files) j) m.k)
          → (MarkedBy files day area → marked_on (entries_of files) day area ≡ 1) → marked_on (entries_of (file ∷ files)) day area ≡ 1
      by zero listed of_day among number marked rest =
          on_here _ (entries_of files) of_day
          ∙ one-so file area 0 (areas_of file)
          (record { k = m.k; above = omega arith; below = omega (arith, among); number = number; marked = marked_so _ marked })
      by (suc j) listed of_day among number marked rest =
          on_past _ (entries_of files) (λ e. omega (arith, e, of_day, earlier file files o j (omega arith)))
          ∙ rest (record { j = j; listed = omega arith; of_day = of_day; k = m.k; among = among; number = number; marked = marked })

-- ---- the areas held

held_marks : (area : ℕ) (l : List Place) → AllMarked l → (k : ℕ) → k < length l → (get_or l k (place 0 0)).area ≡ area → marks_of area l ≡ 0 → ⊥
held_marks area [] a k h n z = omega arith
held_marks area (p ∷ l) a zero h n z = a.0 (sym (marks_here area p l n) ∙ z)
held_marks area (p ∷ l) a (suc k) h n z =
    dite (ℕ_discrete p.area area)
    (λ e. a.0 (sym (marks_here area p l e) ∙ z))
    (λ e. held_marks area l a.1 k (omega arith) n (sym (marks_past area p l e) ∙ z))

marks_held : (area : ℕ) (l : List Place) → (marks_of area l ≡ 0 → ⊥) → (k : ℕ) × ((k < length l) × ((get_or l k (place 0 0)).area ≡ area))
unfolding marks_of
marks_held area [] n = absurd (n refl)
marks_held area (p ∷ l) n =
    dite (ℕ_discrete p.area area)
    (λ e. (0, (omega arith, e)))
    (λ e.
    let rest = marks_held area l (λ z. n (marks_past area p l e ∙ z)) in
    (suc rest.0, (omega (arith, rest.1.0), rest.1.1)))

-- ---- the record

module _ (files : List (List ℕ)) (accepted : AllEntered files) where
  abbrev r : Record
  r = after_files files

  abbrev es : List Entry
  es = entries_of files

  left : FilesLeave files
  left = files_leave files accepted

  held-is : entries r ≡ held_after es
  held-is = ap entries left.is ∙ entries_of_lem (last_day files) (held_after es)

  many : r.held ≡ length (entries r)
  many = ap (λ s. s.held) (listed_of r (last_day files) (held_after es) left.is)

  bit-says : (area i : ℕ) → i < recorded_days → bit_at (marks_of area (entries r)) i ≡ 1 → MarkedBefore files (day_number (last_day files)) area i
  bit-says area i h e =
      let b : bit_at (marks_of area (held_after es)) i ≡ 1 = rw held-is at e in
      let n = last_number files in
      dite (dec_lt (last_of es) i)
      (λ c. absurd (omega (arith, none_before_the_first area es i left.order c h, b)))
      (λ c.
      let day = last_of es - i in
      record {
        on = day;
        apart = omega (arith, n, c);
        by = on_says day area files (sym (what_the_entries_say area es day i left.order (omega (arith, c)) h) ∙ b);
      })

  bit_so : (area i : ℕ) → i < recorded_days → MarkedBefore files (day_number (last_day files)) area i → bit_at (marks_of area (entries r)) i ≡ 1
  bit_so area i h m =
      rw held-is
      (what_the_entries_say area es m.on i left.order (m.apart ∙ last_number files) h ∙ on_so m.on area files left.order m.by)

  held-says : (area : ℕ) → Held r area → MarkedWithin files area
  held-says area a =
      let here : a.at < length (entries r) = omega (arith, a.inside, many) in
      let number : (get_or (entries r) a.at (place 0 0)).area ≡ area =
      ap (λ p. p.area) (get_or-take r.held r.places a.at (place 0 0) a.inside) ∙ a.number in
      let may = left_by_entries es left.order left.fitting in
      let marked : marks_of area (entries r) ≡ 0 → ⊥ = held_marks area (entries r) (rw held-is (all_after es)) a.at here number in
      let b = some_bit recorded_days (marks_of area (entries r)) (rw held-is (may.within area)) marked in
      record { i = b.0; inside = b.1.0; before = bit-says area b.0 b.1.0 b.1.1 }

  held_so : (area : ℕ) → MarkedWithin files area → Held r area
  held_so area m =
      let b = bit_so area m.i m.inside m.before in
      let h = marks_held area (entries r) (λ z. omega (arith, sym b ∙ ap (λ x. bit_at x m.i) z ∙ no_bit m.i)) in
      let inside : h.0 < r.held = omega (arith, h.1.0, many) in
      record { at = h.0; inside = inside; number = ap (λ p. p.area) (sym (get_or-take r.held r.places h.0 (place 0 0) inside)) ∙ h.1.1 }

  pub entries_say : EntriesSay files r
  entries_say = record { last = ap (λ s. s.last) left.is; held = held-says; held_so = held_so; bit = bit-says; bit_so = bit_so }

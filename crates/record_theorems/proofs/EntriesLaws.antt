-- After any entries in order, bit i of an area's marks says whether the day i days before the last one was marked for it.
use Prim.Native.Nat.{ℕ, zero, suc, ◌+◌, ◌-◌, ◌/◌, ◌%◌, ◌<◌, ◌≤◌}
use mathlib.Core.Path.{◌≡◌, refl, sym, ap, ◌∙◌}
use mathlib.Core.Bool.{Bool, true, false, cond}
use mathlib.Core.List.{List, [], ◌∷◌}
use mathlib.Core.Logic.{dite}
use native.Mathlib.Decide.{dec_lt, ℕ_discrete}
use native.Mathlib.Omega.{arith}
use native.Mathlib.Nat.{add-zero, zero-add}
use lib.Dec.{eqb}
use borrow.Author.Tests.{eq-eqb, ne_eqb, le-leb, lt-leb}
use Rattle.limits.specs.Ranges.{recorded_days}
use Rattle.marks.specs.Marks.{aged, bit_at, bits_below, counted}
use Rattle.marks.proofs.Bits.{aged_bit, aged_bit_between, aged_even, bit_zero, bit_suc, aged_none, no_bit}
use Rattle.recording.specs.declared.Place.{Place}
use Rattle.recording.specs.Record.{place, kept, marked, marked_all, marks_of}
use Rattle.made.specs.Made.{RisingNumbers}
use Rattle.record_theorems.specs.Entries.{Entry, last_of, held_after, one_if, marked_on, Rising, Before, InOrder, marked_days}
use Rattle.recording.proofs.AreaMarks.{marks_here, marks_past}
use Rattle.recording.proofs.Lists.{kept_out, kept_in}
use Rattle.recording.proofs.InPlace.{marked_below, marked_same, marked_above}

-- ---- an area's marks in a list

pub rising_from : (m n : ℕ) (l : List Place) → m ≤ n → Rising n l → Rising m l
rising_from m n [] h r = tt
rising_from m n (p ∷ l) h r = (omega (arith, r.0), r.1)

pub absent : (b n : ℕ) (l : List Place) → Rising n l → b < n → marks_of b l ≡ 0
unfolding marks_of
absent b n [] r h = refl
absent b n (p ∷ l) r h = marks_past b p l (λ e. omega (arith, r.0)) ∙ absent b (p.area + 1) l r.1 (omega (arith, r.0))

-- ---- ageing

module _ (g : ℕ) where
  pub rising_kept : (n : ℕ) (l : List Place) → Rising n l → Rising n (kept g l)
  unfolding kept
  rising_kept n [] r = tt
  rising_kept n (p ∷ l) r =
      dite (ℕ_discrete (aged p.marks g) 0)
      (λ e. rw (kept_out g p l e) (rising_from n (p.area + 1) (kept g l) (omega (arith, r.0)) (rising_kept (p.area + 1) l r.1)))
      (λ e. rw (kept_in g p l e) (r.0, rising_kept (p.area + 1) l r.1))

  marks-kept : (b n : ℕ) (l : List Place) → Rising n l → marks_of b (kept g l) ≡ aged (marks_of b l) g
  unfolding kept marks_of
  marks-kept b n [] r = sym (aged_none g)
  marks-kept b n (p ∷ l) r =
      let rest = marks-kept b (p.area + 1) l r.1 in
      dite (ℕ_discrete p.area b)
      (λ a. dite (ℕ_discrete (aged p.marks g) 0)
      (λ e. rw (kept_out g p l e, marks_here b p l a, e) (absent b (p.area + 1) (kept g l) (rising_kept (p.area + 1) l r.1) (omega arith)))
      (λ e. rw (kept_in g p l e, marks_here b p l a) (marks_here b (place p.area (aged p.marks g)) (kept g l) a)))
      (λ a. dite (ℕ_discrete (aged p.marks g) 0)
      (λ e. rw (kept_out g p l e, marks_past b p l a) rest)
      (λ e. rw (kept_in g p l e, marks_past b p l a) (marks_past b (place p.area (aged p.marks g)) (kept g l) a ∙ rest)))

-- ---- a mark

module _ (a : ℕ) where
  pub rising_marked : (n : ℕ) (l : List Place) → Rising n l → n ≤ a → Rising n (marked a l)
  unfolding marked
  rising_marked n [] r h = (h, tt)
  rising_marked n (p ∷ l) r h =
      dite (dec_lt p.area a)
      (λ b. rw (marked_below a p l b) (r.0, rising_marked (p.area + 1) l r.1 (omega (arith, b))))
      (λ b. dite (ℕ_discrete p.area a)
      (λ e. rw (marked_same a p l e) (h, rw (ap (λ x. x + 1) e) at r.1))
      (λ e. let above : a < p.area = omega (arith, b, e) in rw (marked_above a p l above) (h, (omega arith, r.1))))

  marks-marked : (b n : ℕ) (l : List Place) → Rising n l → marks_of b (marked a l) ≡ marks_of b l + cond (eqb a b) 1 0
  unfolding marked marks_of
  marks-marked b n [] r = sym (zero-add _)
  marks-marked b n (p ∷ l) r =
      let rest = marks-marked b (p.area + 1) l r.1 in
      dite (dec_lt p.area a)
      (λ c. rw (marked_below a p l c) (dite (ℕ_discrete p.area b)
      (λ e. rw (marks_here b p (marked a l) e, marks_here b p l e, ne_eqb a b (λ z. omega (arith, c, e))) (sym (add-zero _)))
      (λ e. rw (marks_past b p (marked a l) e, marks_past b p l e) rest)))
      (λ c. dite (ℕ_discrete p.area a)
      (λ e. rw (marked_same a p l e) (dite (ℕ_discrete a b)
      (λ z. rw (marks_here b (place a (p.marks + 1)) l z, marks_here b p l (e ∙ z), eq-eqb a b z))
      (λ z. rw (marks_past b (place a (p.marks + 1)) l z, marks_past b p l (λ y. z (sym e ∙ y)), ne_eqb a b z) (sym (add-zero _)))))
      (λ e. let above : a < p.area = omega (arith, c, e) in rw (marked_above a p l above) (dite (ℕ_discrete a b)
      (λ z. rw (marks_here b (place a 1) (p ∷ l) z, marks_past b p l (λ y. omega arith), absent b (p.area + 1) l r.1 (omega arith), eq-eqb a b z))
      (λ z. rw (marks_past b (place a 1) (p ∷ l) z, ne_eqb a b z) (sym (add-zero _))))))

-- ---- the marks of a day

pub one_here : (b : ℕ) (areas : List ℕ) (a : ℕ) → a ≡ b → one_if b (a ∷ areas) ≡ 1
unfolding one_if
one_here b areas a e = simp (eq-eqb a b e)

pub one_past : (b : ℕ) (areas : List ℕ) (a : ℕ) → (a ≡ b → ⊥) → one_if b (a ∷ areas) ≡ one_if b areas
unfolding one_if
one_past b areas a n = simp (ne_eqb a b n)

pub one_absent : (b n : ℕ) (areas : List ℕ) → RisingNumbers n areas → b < n → one_if b areas ≡ 0
unfolding one_if
one_absent b n [] r h = refl
one_absent b n (a ∷ areas) r h =
    simp (ne_eqb a b (λ e. omega (arith, r.0))) (one_absent b (a + 1) areas r.1 (omega (arith, r.0)))

pub one_most : (b : ℕ) (areas : List ℕ) → one_if b areas ≤ 1
unfolding one_if
one_most b [] = omega arith
one_most b (a ∷ areas) = by (eqb a b) (one_most b areas)
  where
    by : (t : Bool) → one_if b areas ≤ 1 → cond t 1 (one_if b areas) ≤ 1
    by true h = omega arith
    by false h = h

rising_all : (areas : List ℕ) (l : List Place) → Rising 0 l → Rising 0 (marked_all areas l)
unfolding marked_all
rising_all [] l r = r
rising_all (a ∷ areas) l r = rising_all areas (marked a l) (rising_marked a 0 l r (omega arith))

marks_all : (b n : ℕ) (areas : List ℕ) (l : List Place) → RisingNumbers n areas → Rising 0 l
    → marks_of b (marked_all areas l) ≡ marks_of b l + one_if b areas
unfolding marked_all one_if
marks_all b n [] l o r = sym (add-zero _)
marks_all b n (a ∷ areas) l o r =
    marks_all b (a + 1) areas (marked a l) o.1 (rising_marked a 0 l r (omega arith))
    ∙ ap (λ x. x + one_if b areas) (marks-marked a b 0 l r)
    ∙ dite (ℕ_discrete a b)
    (λ e. rw (eq-eqb a b e, one_absent b (a + 1) areas o.1 (omega arith)) (add-zero _))
    (λ e. simp (ne_eqb a b e, add-zero))

-- ---- the entries

pub rising_after : (es : List Entry) → Rising 0 (held_after es)
unfolding held_after
rising_after [] = tt
rising_after (e ∷ es) = rising_all e.areas _ (rising_kept (e.day - last_of es) 0 (held_after es) (rising_after es))

pub last_before : (es : List Entry) (day : ℕ) → Before es day → last_of es ≤ day
unfolding last_of
last_before [] day h = omega arith
last_before (e ∷ es) day h = omega arith

module _ (area : ℕ) where
  -- the marks of an area after one entry more
  pub marks_after : (e : Entry) (es : List Entry) → InOrder (e ∷ es)
      → marks_of area (held_after (e ∷ es)) ≡ aged (marks_of area (held_after es)) (e.day - last_of es) + one_if area e.areas
  unfolding held_after
  marks_after e es o =
      let g = e.day - last_of es in
      marks_all area 0 e.areas (kept g (held_after es)) o.0 (rising_kept g 0 (held_after es) (rising_after es))
      ∙ ap (λ x. x + one_if area e.areas) (marks-kept g area 0 (held_after es) (rising_after es))

  -- the day entered is not marked by what is left of the days before
  pub even : (es : List Entry) (day : ℕ) → Before es day → aged (marks_of area (held_after es)) (day - last_of es) % 2 ≡ 0
  unfolding held_after marks_of last_of
  even [] day h = rw aged_none
  even (e ∷ es) day h = aged_even (marks_of area (held_after (e ∷ es))) (day - e.day) (omega arith)

  first_bit : (x y : ℕ) → x % 2 ≡ 0 → y ≤ 1 → bit_at (x + y) 0 ≡ y
  first_bit x y h k = bit_zero (x + y) ∙ omega arith

  next_bit : (x y i : ℕ) → x % 2 ≡ 0 → y ≤ 1 → bit_at (x + y) (suc i) ≡ bit_at x (suc i)
  next_bit x y i h k =
      let e : (x + y) / 2 ≡ x / 2 = omega arith in
      bit_suc (x + y) i ∙ ap (λ z. bit_at z i) e ∙ sym (bit_suc x i)

  -- no entry is of a day after the last one
  later : (es : List Entry) (day : ℕ) → InOrder es → last_of es < day → marked_on es day area ≡ 0
  unfolding marked_on last_of
  later [] day o h = refl
  later (e ∷ es) day o h = simp (ne_eqb e.day day (λ z. omega arith)) (later es day o.2 (omega (arith, last_before es e.day o.1)))

  bit-after : (e : Entry) (es : List Entry) (i : ℕ) → InOrder (e ∷ es)
      → bit_at (marks_of area (held_after (e ∷ es))) (suc i) ≡ bit_at (aged (marks_of area (held_after es)) (e.day - last_of es)) (suc i)
  bit-after e es i o = rw (marks_after e es o) (next_bit _ _ i (even es e.day o.1) (one_most area e.areas))

  -- bit i of an area's marks is 1 just where the day i days before the last one was marked for it
  pub what_the_entries_say : (es : List Entry) (day i : ℕ) → InOrder es → day + i ≡ last_of es → i < recorded_days
      → bit_at (marks_of area (held_after es)) i ≡ marked_on es day area
  unfolding held_after marks_of marked_on last_of
  what_the_entries_say [] day i o h l = no_bit i
  what_the_entries_say (e ∷ es) day zero o h l =
      rw (marks_after e es o, eq-eqb e.day day (omega arith)) (first_bit _ _ (even es e.day o.1) (one_most area e.areas))
  what_the_entries_say (e ∷ es) day (suc i) o h l =
      let g = e.day - last_of es in
      let m = marks_of area (held_after es) in
      let b = last_before es e.day o.1 in
      bit-after e es i o
      ∙ dite (dec_lt (suc i) g)
      (λ c. aged_bit_between m g (suc i) c l ∙ sym (later es day o.2 (omega (arith, c))))
      (λ c. aged_bit m g (suc i) (omega (arith, c)) l ∙ what_the_entries_say es day (suc i - g) o.2 (omega (arith, c)) (omega arith))
      ∙ rw (ne_eqb e.day day (λ z. omega arith))

  -- no day before the first of all is marked
  pub none_before_the_first : (es : List Entry) (i : ℕ) → InOrder es → last_of es < i → i < recorded_days → bit_at (marks_of area (held_after es)) i ≡ 0
  unfolding held_after marks_of last_of
  none_before_the_first [] i o h l = no_bit i
  none_before_the_first (e ∷ es) zero o h l = absurd (omega arith)
  none_before_the_first (e ∷ es) (suc i) o h l =
      let g = e.day - last_of es in
      let b = last_before es e.day o.1 in
      bit-after e es i o
      ∙ aged_bit (marks_of area (held_after es)) g (suc i) (omega arith) l
      ∙ none_before_the_first es (suc i - g) o.2 (omega arith) (omega arith)

  -- ---- d

  -- the marked days among the n days before a day
  days-before : (es : List Entry) (day g n : ℕ) → InOrder es → last_of es + g ≡ day → 1 ≤ g → n ≤ recorded_days
      → marked_days es day area n ≡ bits_below (marks_of area (held_after es)) (n + 1 - g)
  unfolding marked_days bits_below
  days-before es day g zero o h k l = let e : 0 + 1 - g ≡ 0 = omega arith in rw e
  days-before es day g (suc n) o h k l =
      let m = marks_of area (held_after es) in
      let i = n + 1 - g in
      let rest = days-before es day g n o h k (omega arith) in
      dite (dec_lt (suc n) g)
      (λ c.
      let e : suc n + 1 - g ≡ 0 = omega (arith, c) in
      let f : n + 1 - g ≡ 0 = omega (arith, c) in
      rw (e, rest, f, le-leb (suc n) day (omega (arith, c))) (zero-add _ ∙ later es (day - suc n) o (omega (arith, c))))
      (λ c.
      let e : suc n + 1 - g ≡ suc i = omega (arith, c) in
      rw (e, rest)
      (ap (λ x. bits_below m i + x)
      (dite (dec_lt day (suc n))
      (λ b. rw (lt-leb (suc n) day b) (sym (none_before_the_first es i o (omega (arith, b, c)) (omega arith))))
      (λ b. rw (le-leb (suc n) day (omega (arith, b))) (sym (what_the_entries_say es (day - suc n) i o (omega (arith, b, c)) (omega arith)))))))

  -- d is the marked days among the thirty before a day
  pub d_is : (es : List Entry) (day : ℕ) → InOrder es → last_of es < day
      → counted (marks_of area (held_after es)) (day - last_of es) ≡ marked_days es day area recorded_days
  d_is es day o h = sym (days-before es day (day - last_of es) recorded_days o (omega arith) (omega arith) (omega arith))

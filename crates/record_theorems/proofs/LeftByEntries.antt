-- A record is left by accepted entries exactly where its list may be left: both ways.
use Prim.Native.Nat.{ℕ, zero, suc, ◌+◌, ◌-◌, ◌<◌, ◌≤◌, ◌^◌, min}
use mathlib.Core.Path.{◌≡◌, refl, sym, ap, ◌∙◌}
use mathlib.Core.List.{List, [], ◌∷◌}
use mathlib.Core.Logic.{dite}
use native.Mathlib.Decide.{dec_lt, ℕ_discrete}
use native.Mathlib.Omega.{arith}
use lib.ListN.{length}
use borrow.Author.Tests.{eq-eqb, ne_eqb}
use Rattle.limits.specs.Ranges.{recorded_days}
use Rattle.limits.specs.Editions.{most_held}
use Rattle.marks.specs.Marks.{bit_at}
use Rattle.marks.proofs.Bits.{aged_small, no_bit, bit_most, by_bits}
use Rattle.recording.specs.declared.Place.{Place}
use Rattle.recording.specs.Record.{marks_of}
use Rattle.recording.proofs.AreaMarks.{marks_here, marks_past}
use Rattle.made.specs.Made.{RisingNumbers}
use Rattle.record_theorems.specs.Entries.{Entry, last_of, held_after, one_if, marked_on, Rising, Before, InOrder, AllMarked}
use Rattle.record_theorems.specs.Left.{Left, Fitting, areas_at, entries_for, last_entries}
use Rattle.record_theorems.proofs.EntriesLaws.{one_here, one_past, absent, one_absent, one_most}
use Rattle.record_theorems.proofs.EntriesLaws.{even, marks_after, rising_after, what_the_entries_say, none_before_the_first}
use Rattle.record_theorems.proofs.Determined.{all_after, determined}

-- ---- what entries leave may be left

within_after : (area : ℕ) (es : List Entry) → InOrder es → marks_of area (held_after es) < 2 ^ recorded_days
unfolding held_after marks_of
within_after area [] o = omega arith
within_after area (e ∷ es) o =
    rw (marks_after area e es o)
    (omega (arith, aged_small (marks_of area (held_after es)) (e.day - last_of es), even area es e.day o.1, one_most area e.areas))

few_after : (es : List Entry) → Fitting es → length (held_after es) ≤ most_held
unfolding held_after
few_after [] f = omega arith
few_after (e ∷ es) f = f.0

pub left_by_entries : (es : List Entry) → InOrder es → Fitting es → Left (last_of es) (held_after es)
left_by_entries es o f =
    record {
      few = few_after es f;
      rising = rising_after es;
      marked = all_after es;
      within = λ area. within_after area es o;
      begun = λ area i h l. none_before_the_first area es i o h l;
    }

-- ---- what may be left, entries leave

pub numbers_from : (m n : ℕ) (areas : List ℕ) → m ≤ n → RisingNumbers n areas → RisingNumbers m areas
numbers_from m n [] h r = tt
numbers_from m n (a ∷ areas) h r = (omega (arith, r.0), r.1)

module _ (i : ℕ) where
  pub at_set : (p : Place) (l : List Place) → bit_at p.marks i ≡ 1 → areas_at i (p ∷ l) ≡ p.area ∷ areas_at i l
  unfolding areas_at
  at_set p l e = simp (eq-eqb _ _ e)

  pub at_clear : (p : Place) (l : List Place) → (bit_at p.marks i ≡ 1 → ⊥) → areas_at i (p ∷ l) ≡ areas_at i l
  unfolding areas_at
  at_clear p l n = simp (ne_eqb _ _ n)

  pub numbers_at_lem : (n : ℕ) (l : List Place) → Rising n l → RisingNumbers n (areas_at i l)
  unfolding areas_at
  numbers_at_lem n [] r = tt
  numbers_at_lem n (p ∷ l) r =
      dite (ℕ_discrete (bit_at p.marks i) 1)
      (λ e. rw (at_set p l e) (r.0, numbers_at_lem (p.area + 1) l r.1))
      (λ e. rw (at_clear p l e) (numbers_from n (p.area + 1) (areas_at i l) (omega (arith, r.0)) (numbers_at_lem (p.area + 1) l r.1)))

  one_at : (b n : ℕ) (l : List Place) → Rising n l → one_if b (areas_at i l) ≡ bit_at (marks_of b l) i
  unfolding areas_at one_if marks_of
  one_at b n [] r = sym (no_bit i)
  one_at b n (p ∷ l) r =
      let rest = one_at b (p.area + 1) l r.1 in
      dite (ℕ_discrete (bit_at p.marks i) 1)
      (λ e. rw (at_set p l e) (dite (ℕ_discrete p.area b)
      (λ a. rw (marks_here b p l a) (one_here b (areas_at i l) p.area a ∙ sym e))
      (λ a. rw (marks_past b p l a) (one_past b (areas_at i l) p.area a ∙ rest))))
      (λ e. rw (at_clear p l e) (dite (ℕ_discrete p.area b)
      (λ a. rw (marks_here b p l a) (one_absent b (p.area + 1) (areas_at i l) (numbers_at_lem (p.area + 1) l r.1) (omega arith)
      ∙ omega (arith, e, bit_most p.marks i)))
      (λ a. rw (marks_past b p l a) rest)))

module _ (day : ℕ) (l : List Place) (r : Rising 0 l) where
  made-before : (i n : ℕ) → i + suc n ≤ day + 1 → Before (entries_for day l (suc i) n) (day - i)
  unfolding entries_for
  made-before i zero h = tt
  made-before i (suc n) h = omega arith

  made-order : (i n : ℕ) → i + n ≤ day + 1 → InOrder (entries_for day l i n)
  unfolding entries_for
  made-order i zero h = tt
  made-order i (suc n) h = (numbers_at_lem i 0 l r, made-before i n h, made-order (suc i) n (omega arith))

  made-on : (b i n j : ℕ) → i ≤ j → j < i + n → i + n ≤ day + 1 → marked_on (entries_for day l i n) (day - j) b ≡ bit_at (marks_of b l) j
  unfolding entries_for marked_on
  made-on b i zero j h k m = absurd (omega arith)
  made-on b i (suc n) j h k m =
      dite (ℕ_discrete i j)
      (λ e. simp (eq-eqb (day - i) (day - j) (omega arith)) (one_at i b 0 l r ∙ ap (bit_at (marks_of b l)) e))
      (λ e. simp (ne_eqb (day - i) (day - j) (λ z. omega (arith, e))) (made-on b (suc i) n j (omega (arith, e)) (omega arith) (omega arith)))

  made_none : (b i n d : ℕ) → marks_of b l ≡ 0 → marked_on (entries_for day l i n) d b ≡ 0
  unfolding entries_for marked_on
  made_none b i zero d z = refl
  made_none b i (suc n) d z =
      let o : one_if b (areas_at i l) ≡ 0 = one_at i b 0 l r ∙ ap (λ x. bit_at x i) z ∙ no_bit i in
      dite (ℕ_discrete (day - i) d)
      (λ e. simp (eq-eqb (day - i) d e) o)
      (λ e. simp (ne_eqb (day - i) d e) (made_none b (suc i) n d z))

  -- an area without marks has none after any of these entries
  made-zero : (b i n : ℕ) → i + n ≤ day + 1 → marks_of b l ≡ 0 → marks_of b (held_after (entries_for day l i n)) ≡ 0
  made-zero b i n h z =
      let es = entries_for day l i n in
      let o = made-order i n h in
      by_bits recorded_days (marks_of b (held_after es)) 0 (within_after b es o) (omega arith)
      (λ j k. dite (dec_lt (last_of es) j)
      (λ c. none_before_the_first b es j o c k ∙ sym (no_bit j))
      (λ c. what_the_entries_say b es (last_of es - j) j o (omega (arith, c)) k ∙ made_none b i n (last_of es - j) z ∙ sym (no_bit j)))

-- a rising list whose areas are all among those of another is no longer
no_longer : (m n : ℕ) (k l : List Place) → Rising m k → Rising n l → AllMarked k → ((b : ℕ) → marks_of b l ≡ 0 → marks_of b k ≡ 0) → length k ≤ length l
unfolding marks_of
no_longer m n [] l r s a sub = omega arith
no_longer m n (p ∷ k) [] r s a sub = absurd (a.0 (sym (marks_here p.area p k refl) ∙ sub p.area refl))
no_longer m n (p ∷ k) (q ∷ l) r s a sub =
    dite (dec_lt p.area q.area)
    (λ h. absurd (a.0 (sym (marks_here p.area p k refl) ∙ sub p.area (absent p.area q.area (q ∷ l) (omega arith, s.1) h))))
    (λ h. dite (ℕ_discrete p.area q.area)
    (λ e. omega (
      arith,
      no_longer (p.area + 1) (q.area + 1) k l r.1 s.1 a.1
          (λ b z. dite (ℕ_discrete p.area b)
          (λ y. absent b (p.area + 1) k r.1 (omega arith))
          (λ y. sym (marks_past b p k y) ∙ sub b (marks_past b q l (λ x. y (e ∙ x)) ∙ z))),
    ))
    (λ e. omega (
      arith,
      no_longer p.area (q.area + 1) (p ∷ k) l (omega arith, r.1) s.1 a
          (λ b z. dite (ℕ_discrete q.area b)
          (λ y. absent b p.area (p ∷ k) (omega arith, r.1) (omega (arith, h, e, y)))
          (λ y. sub b (marks_past b q l y ∙ z))),
    )))

module _ (day : ℕ) (l : List Place) (may : Left day l) where
  fitting : (i n : ℕ) → i + n ≤ day + 1 → Fitting (entries_for day l i n)
  unfolding entries_for
  fitting i zero h = tt
  fitting i (suc n) h = (
    omega (
      arith,
      may.few,
      no_longer 0 0 (held_after (entries_for day l i (suc n))) l (rising_after (entries_for day l i (suc n))) may.rising
          (all_after (entries_for day l i (suc n))) (λ b z. made-zero day l may.rising b i (suc n) h z),
    ),
    fitting (suc i) n (omega arith),
  )

  theirs-last : last_of (last_entries day l) ≡ day
  unfolding entries_for last_of
  theirs-last = omega arith

  theirs-order : InOrder (last_entries day l)
  theirs-order = made-order day l may.rising 0 (suc (min (recorded_days - 1) day)) (omega arith)

  entries-leave : held_after (last_entries day l) ≡ l
  entries-leave =
      let theirs = last_entries day l in
      determined 0 0 (held_after theirs) l (rising_after theirs) may.rising (all_after theirs) may.marked
      (λ b. by_bits recorded_days _ _ (within_after b theirs theirs-order) (may.within b)
      (λ i h. dite (dec_lt day i)
      (λ c. none_before_the_first b theirs i theirs-order (omega (arith, c, theirs-last)) h ∙ sym (may.begun b i c h))
      (λ c. what_the_entries_say b theirs (day - i) i theirs-order (omega (arith, c, theirs-last)) h
      ∙ made-on day l may.rising b 0 (suc (min (recorded_days - 1) day)) i (omega arith) (omega (arith, c)) (omega arith))))

  -- what may be left, these entries leave
  pub left_made : InOrder (last_entries day l) × Fitting (last_entries day l) × (last_of (last_entries day l) ≡ day) × (held_after (last_entries day l) ≡ l)
  left_made = (theirs-order, fitting 0 (suc (min (recorded_days - 1) day)) (omega arith), theirs-last, entries-leave)

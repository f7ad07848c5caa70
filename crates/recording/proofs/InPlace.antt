-- The laws of a mark in its place: what stands before it, the place itself, and what stands behind it.
use Rattle.std.proofs.Common.{◌≡◌, ℕ, zero, suc, ◌+◌, ◌-◌, ◌<◌, ◌≤◌, List, [], ◌∷◌, ◌++◌, length, take, drop, get_or, refl, sym, ap, ap₂, ◌∙◌, add-one, Option, Some, None}
use Rattle.std.proofs.Common.{arith, length-append, length-take, length-drop}
use Rattle.std.specs.List.{position, position_or_len}
use Rattle.std.specs.Option.{unwrap_or}
use Rattle.std.proofs.lemmas.List.Sums.{prefix_len-le-length}
use Rattle.std.proofs.lemmas.Grind.{common_steps}
use mathlib.Core.Logic.{dite}
use native.Mathlib.Decide.{dec_lt}
use lib.Dec.{leb}
use lib.ListN.{replicate}
use lib.Seq.{take-append_seam}
use borrow.Author.Tests.{lt-ltb, le-ltb, eq-eqb, ne_eqb}
use Rattle.limits.specs.Editions.{most_held}
use Rattle.recording.specs.declared.Place.{Place}
use Rattle.recording.specs.declared.Record.{Record}
use Rattle.recording.specs.Record.{place, entries, record_of, marked, answered}

-- ---- a record and its list

pub entries_of_lem : (last : ℕ) (l : List Place) → entries (record_of last l) ≡ l
entries_of_lem last l = take-append_seam l (replicate (most_held - length l) (place 0 0))

-- the record of a list is the record of its own entries
pub listed_of : (r : Record) (last : ℕ) (l : List Place) → r ≡ record_of last l → r ≡ record_of r.last (entries r)
listed_of r last l e = e ∙ ap₂ record_of (sym (ap (λ s. s.last) e)) (sym (ap entries e ∙ entries_of_lem last l))

-- ---- the place of an area

module _ (area : ℕ) where
  -- how many areas stand before an area's place
  abbrev pub leading : List Place → ℕ
  leading l = position_or_len (λ p. leb area p.area) l

  pub lead_most : (l : List Place) → leading l ≤ length l
  lead_most l = grind (arith, prefix_len-le-length)

  pub lead_is : (l : List Place) (first : Option ℕ) (k : ℕ) → first ≡ position (λ p. leb area p.area) l → k ≡ unwrap_or first (length l)
      → leading l ≡ k
  lead_is l first k e f = rw (f, e) (grind (arith, common_steps, lead_most l))

  lead-below : (p : Place) (l : List Place) → p.area < area → leading (p ∷ l) ≡ suc (leading l)
  lead-below p l h = grind (arith, common_steps)

  lead-here : (p : Place) (l : List Place) → area ≤ p.area → leading (p ∷ l) ≡ 0
  lead-here p l h = grind (arith, common_steps)

  -- ---- the mark in it

  pub marked_below : (p : Place) (l : List Place) → p.area < area → marked area (p ∷ l) ≡ p ∷ marked area l
  unfolding marked
  marked_below p l h = simp (lt-ltb _ _ h)

  pub marked_same : (p : Place) (l : List Place) → p.area ≡ area → marked area (p ∷ l) ≡ place area (p.marks + 1) ∷ l
  unfolding marked
  marked_same p l h = simp (le-ltb p.area area (omega arith), eq-eqb _ _ h)

  pub marked_above : (p : Place) (l : List Place) → area < p.area → marked area (p ∷ l) ≡ place area 1 ∷ p ∷ l
  unfolding marked
  marked_above p l h = simp (le-ltb p.area area (omega arith), ne_eqb p.area area (λ e. omega arith))

  -- the area is held: one day more
  pub marked_held : (l : List Place) (k : ℕ) (d : Place) → leading l ≡ k → k < length l → (get_or l k d).area ≡ area
      → marked area l ≡ take k l ++ (place area ((get_or l k d).marks + 1) ∷ drop (k + 1) l)
  marked_held [] k d e h a = absurd (omega arith)
  marked_held (p ∷ l) zero d e h a = marked_same p l a
  marked_held (p ∷ l) (suc k) d e h a =
      dite (dec_lt p.area area)
      (λ b. rw (marked_below p l b, marked_held l k d (omega (arith, lead-below p l b)) (omega arith) a, add-one k, add-one (suc k)))
      (λ b. absurd (omega (arith, lead-here p l (omega (arith, b)))))

  -- it is not: its own place between the others
  pub marked_new : (l : List Place) (k : ℕ) (d : Place) → leading l ≡ k → (k < length l → (get_or l k d).area ≡ area → ⊥)
      → marked area l ≡ take k l ++ (place area 1 ∷ drop k l)
  unfolding marked
  marked_new [] zero d e n = refl
  marked_new [] (suc k) d e n = absurd (omega arith)
  marked_new (p ∷ l) zero d e n =
      dite (dec_lt p.area area)
      (λ b. absurd (omega (arith, lead-below p l b)))
      (λ b. marked_above p l (omega (arith, b, n (omega arith))))
  marked_new (p ∷ l) (suc k) d e n =
      dite (dec_lt p.area area)
      (λ b. rw (marked_below p l b, marked_new l k d (omega (arith, lead-below p l b)) (λ h a. n (omega arith) a)))
      (λ b. absurd (omega (arith, lead-here p l (omega (arith, b)))))

-- how long the list is with a place put in
pub put_length : (l : List Place) (k j : ℕ) (p : Place) → k ≤ length l → length (take k l ++ (p ∷ drop j l)) ≡ k + 1 + (length l - j)
put_length l k j p h = omega (arith, length-append (take k l) (p ∷ drop j l), length-take k l, length-drop j l)

-- ---- the answer

module _ (last : ℕ) (l : List Place) where
  pub answer_marked : (after : Record) → length l ≤ most_held → after ≡ record_of last l → Some after ≡ answered last l
  answer_marked after h e = simp (le-ltb most_held (length l) h) (ap Some e)

  pub answer_refused : most_held < length l → None ≡ answered last l
  answer_refused h = simp (lt-ltb most_held (length l) h)

  pub refused_full : None ≡ answered last l → most_held < length l
  refused_full e = grind (arith, common_steps)

  pub marked_room : (after : Record) → Some after ≡ answered last l → (length l ≤ most_held) × (after ≡ record_of last l)
  marked_room after e = grind (arith, common_steps)

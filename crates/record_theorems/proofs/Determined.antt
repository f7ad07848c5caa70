-- Every area held after some entries has a marked day, and a rising list of such areas is determined by the marks of each area.
use Prim.Native.Nat.{ℕ, ◌+◌, ◌-◌, ◌<◌}
use mathlib.Core.Path.{◌≡◌, refl, sym, ap₂, ◌∙◌}
use mathlib.Core.List.{List, [], ◌∷◌}
use mathlib.Core.Logic.{dite}
use native.Mathlib.Decide.{dec_lt, ℕ_discrete}
use native.Mathlib.Omega.{arith}
use Rattle.marks.specs.Marks.{aged}
use Rattle.recording.specs.declared.Place.{Place}
use Rattle.recording.specs.Record.{place, kept, marked, marked_all, marks_of}
use Rattle.record_theorems.specs.Entries.{Entry, last_of, held_after, Rising, AllMarked}
use Rattle.recording.proofs.Lists.{kept_out, kept_in}
use Rattle.recording.proofs.InPlace.{marked_below, marked_same, marked_above}
use Rattle.recording.proofs.AreaMarks.{marks_here, marks_past}
use Rattle.record_theorems.proofs.EntriesLaws.{absent}

-- ---- every area held has a marked day

all_kept : (g : ℕ) (l : List Place) → AllMarked (kept g l)
unfolding kept
all_kept g [] = tt
all_kept g (p ∷ l) =
    dite (ℕ_discrete (aged p.marks g) 0)
    (λ e. rw (kept_out g p l e) (all_kept g l))
    (λ e. rw (kept_in g p l e) (e, all_kept g l))

all_marked : (a : ℕ) (l : List Place) → AllMarked l → AllMarked (marked a l)
unfolding marked
all_marked a [] n = ((λ z. omega arith), tt)
all_marked a (p ∷ l) n =
    dite (dec_lt p.area a)
    (λ b. rw (marked_below a p l b) (n.0, all_marked a l n.1))
    (λ b. dite (ℕ_discrete p.area a)
    (λ e. rw (marked_same a p l e) ((λ z. omega arith), n.1))
    (λ e. let above : a < p.area = omega (arith, b, e) in rw (marked_above a p l above) ((λ z. omega arith), n)))

all_marked_all : (areas : List ℕ) (l : List Place) → AllMarked l → AllMarked (marked_all areas l)
unfolding marked_all
all_marked_all [] l n = n
all_marked_all (a ∷ areas) l n = all_marked_all areas (marked a l) (all_marked a l n)

pub all_after : (es : List Entry) → AllMarked (held_after es)
unfolding held_after
all_after [] = tt
all_after (e ∷ es) = all_marked_all e.areas _ (all_kept (e.day - last_of es) (held_after es))

-- ---- a rising list of marked areas is determined by the marks of each area

pub determined : (m n : ℕ) (l k : List Place) → Rising m l → Rising n k → AllMarked l → AllMarked k
    → ((area : ℕ) → marks_of area l ≡ marks_of area k) → l ≡ k
unfolding marks_of
determined m n [] [] r s a b same = refl
determined m n [] (q ∷ k) r s a b same = absurd (b.0 (sym (marks_here q.area q k refl) ∙ sym (same q.area)))
determined m n (p ∷ l) [] r s a b same = absurd (a.0 (sym (marks_here p.area p l refl) ∙ same p.area))
determined m n (p ∷ l) (q ∷ k) r s a b same =
    dite (dec_lt p.area q.area)
    (λ h. absurd (a.0 (sym (marks_here p.area p l refl) ∙ same p.area ∙ absent p.area q.area (q ∷ k) (omega arith, s.1) h)))
    (λ h. dite (dec_lt q.area p.area)
    (λ i. absurd (b.0 (sym (marks_here q.area q k refl) ∙ sym (same q.area) ∙ absent q.area p.area (p ∷ l) (omega arith, r.1) i)))
    (λ i.
    let e : p.area ≡ q.area = omega (arith, h, i) in
    let f : p.marks ≡ q.marks = sym (marks_here p.area p l refl) ∙ same p.area ∙ marks_here p.area q k (sym e) in
    ap₂ ◌∷◌ (ap₂ place e f)
    (determined (p.area + 1) (q.area + 1) l k r.1 s.1 a.1 b.1
    (λ area. dite (ℕ_discrete p.area area)
    (λ z. absent area (p.area + 1) l r.1 (omega arith) ∙ sym (absent area (q.area + 1) k s.1 (omega arith)))
    (λ z. sym (marks_past area p l z) ∙ same area ∙ marks_past area q k (λ y. z (e ∙ y)))))))

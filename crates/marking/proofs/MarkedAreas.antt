-- The test for a marked area says what its sentence says; the areas of a file that are marked, all or none.
use Prim.Native.Nat.{ℕ, zero, suc, ◌+◌, ◌-◌, ◌≤◌, ◌<◌}
use mathlib.Core.Bool.{Bool, true, false, cond, ◌&&◌, ◌||◌}
use mathlib.Core.List.{List, [], ◌∷◌, ◌++◌, append-nil}
use mathlib.Core.Logic.{◌⊎◌, inl, inr, ⊎_elim}
use mathlib.Core.Path.{◌≡◌, refl, sym, ap, ◌∙◌}
use native.Mathlib.Nat.{add-zero, zero-add, eq-or-lt_of_le, le_of_suc-le-suc}
use native.Mathlib.Numerals.{add-one}
use native.Mathlib.Omega.{arith}
use lib.Dec.{eqb, leb}
use lib.ListN.{length, get_or, drop, drop_of_length-le}
use lib.Seq.{drop-cons}
use borrow.Author.Tests.{le-leb, lt-leb, leb-true, eqb-true}
use Rattle.verdict.proofs.First.{both}
use Rattle.limits.specs.Ranges.{day_hours}
use Rattle.body.specs.Layout.{flag_of}
use Rattle.amounts.specs.Amounts.{tier_at}
use Rattle.contents.specs.File.{number_at, body_at}
use Rattle.marking.specs.Marked.{failed_before, Marked, marked_in, marked_from}

or_true : (a : Bool) → (a || true) ≡ true
or_true true = refl
or_true false = refl

and-false : (a : Bool) → (a && false) ≡ false
and-false true = refl
and-false false = refl

either : (a b : Bool) → (a || b) ≡ true → (a ≡ true) ⊎ (b ≡ true)
either true b e = inl refl
either false b e = inr e

module _ (body : List ℕ) where
  pub failed_so : (n h : ℕ) → h < n → 2 ≤ tier_at body h → failed_before body n ≡ true
  unfolding failed_before
  failed_so zero h p t = absurd (omega arith)
  failed_so (suc n) h p t =
      ⊎_elim
      (λ (e : h ≡ n). rw (le-leb 2 (tier_at body n) (rw e at t)) (or_true (failed_before body n)))
      (λ (l : h < n). rw (failed_so n h l t))
      (eq-or-lt_of_le (le_of_suc-le-suc p))

  -- one hour more
  pub failed_not : (n : ℕ) → failed_before body n ≡ false → tier_at body n ≤ 1 → failed_before body (n + 1) ≡ false
  unfolding failed_before
  failed_not n e t = rw (add-one n, e, lt-leb 2 (tier_at body n) (omega arith))

  none-failed : (n : ℕ) → ((h : ℕ) → h < n → tier_at body h ≤ 1) → failed_before body n ≡ false
  unfolding failed_before
  none-failed zero none = refl
  none-failed (suc n) none = rw (none-failed n (λ h p. none h (omega arith)), lt-leb 2 (tier_at body n) (omega (arith, none n (omega arith))))

  failed-says : flag_of body ≡ 1 → (n : ℕ) → n ≤ day_hours → failed_before body n ≡ true → Marked body
  unfolding failed_before
  failed-says f zero p e = absurd (let z : ◌≡◌ {A = ℕ} 0 1 = cc in omega arith)
  failed-says f (suc n) p e =
      ⊎_elim
      (λ (a : failed_before body n ≡ true). failed-says f n (omega arith) a)
      (λ (b : leb 2 (tier_at body n) ≡ true). record { flag = f; hour = n; inside = p; tier = leb-true 2 (tier_at body n) b })
      (either (failed_before body n) (leb 2 (tier_at body n)) e)

  pub marked_so : Marked body → marked_in body ≡ true
  unfolding marked_in
  marked_so m = rw (m.flag, failed_so day_hours m.hour m.inside m.tier)

  pub marked_says : marked_in body ≡ true → Marked body
  unfolding marked_in
  marked_says e =
      let p = both (eqb (flag_of body) 1) (failed_before body day_hours) e in
      failed-says (eqb-true (flag_of body) 1 p.0) day_hours (omega arith) p.1

  pub not_marked : ((h : ℕ) → h < day_hours → tier_at body h ≤ 1) → marked_in body ≡ false
  unfolding marked_in
  not_marked none = rw (none-failed day_hours none) (and-false (eqb (flag_of body) 1))

-- ---- the marked areas of a file, one area after the other

module _ (file : List ℕ) where
  pub all_marked : (areas : List ℕ) (k m : ℕ) → k + m ≡ length areas
      → ((j : ℕ) → j < length areas → marked_in (body_at file j) ≡ true) → ((j : ℕ) → j < length areas → number_at file j ≡ get_or areas j 0)
      → marked_from file k m ≡ drop k areas
  unfolding marked_from
  all_marked areas k zero e marked number = sym (drop_of_length-le areas {i = k} (omega arith))
  all_marked areas k (suc m) e marked number =
      let below : k < length areas = omega arith in
      rw (marked k below, number k below, drop-cons areas k 0 below, all_marked areas (suc k) m (omega arith) marked number)

  pub none_marked : (k m n : ℕ) → k + m ≡ n → ((j : ℕ) → j < n → marked_in (body_at file j) ≡ false) → marked_from file k m ≡ []
  unfolding marked_from
  none_marked k zero n e none = refl
  none_marked k (suc m) n e none = rw (none k (omega arith), none_marked (suc k) m n (omega arith) none)

  from-append : (k m n : ℕ) → marked_from file k (m + n) ≡ marked_from file k m ++ marked_from file (k + m) n
  unfolding marked_from
  from-append k zero n = rw (zero-add n, add-zero k)
  from-append k (suc m) n =
      let e : suc m + n ≡ suc (m + n) = omega arith in
      let f : k + suc m ≡ suc k + m = omega arith in
      rw (e, f) (by (marked_in (body_at file k)) (from-append (suc k) m n))
    where
      by : (t : Bool) → marked_from file (suc k) (m + n) ≡ marked_from file (suc k) m ++ marked_from file (suc k + m) n
          → cond t (number_at file k ∷ marked_from file (suc k) (m + n)) (marked_from file (suc k) (m + n))
          ≡ cond t (number_at file k ∷ marked_from file (suc k) m) (marked_from file (suc k) m) ++ marked_from file (suc k + m) n
      by true e = ap (λ l. number_at file k ∷ l) e
      by false e = e

  pub next_marked : (k : ℕ) → marked_in (body_at file k) ≡ true → marked_from file 0 (k + 1) ≡ marked_from file 0 k ++ (number_at file k ∷ [])
  unfolding marked_from
  next_marked k t = from-append 0 k 1 ∙ rw (zero-add k, t)

  pub next_unmarked : (k : ℕ) → marked_in (body_at file k) ≡ false → marked_from file 0 (k + 1) ≡ marked_from file 0 k
  unfolding marked_from
  next_unmarked k t = from-append 0 k 1 ∙ rw (zero-add k, t) (append-nil (marked_from file 0 k))

  -- the first k areas are part of the whole
  pub rest_marked : (k n : ℕ) → k ≤ n → marked_from file 0 n ≡ marked_from file 0 k ++ marked_from file k (n - k)
  rest_marked k n h =
      let e : n ≡ k + (n - k) = omega arith in
      ap (marked_from file 0) e ∙ from-append 0 k (n - k) ∙ rw (zero-add k)

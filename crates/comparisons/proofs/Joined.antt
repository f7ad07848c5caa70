-- Lists of one length joined, and numbers that stay below a bound.
use Prim.Native.Nat.{ℕ, zero, suc, ◌+◌, ◌*◌, ◌-◌, ◌<◌}
use mathlib.Core.List.{List, ◌∷◌, ◌++◌}
use mathlib.Core.Logic.{dite, ⊎_elim}
use mathlib.Core.Path.{◌≡◌, sym, ◌∙◌}
use native.Mathlib.Decide.{dec_lt}
use native.Mathlib.Nat.{eq-or-lt_of_le, le_of_suc-le-suc, zero-mul, suc-mul, mul-le-mul_right}
use native.Mathlib.Omega.{arith}
use lib.ListN.{length, get_or, take, drop, length-append, length-take, length-drop, get_or-append}
use lib.Seq.{get_or-append-add, get_or-take, get_or-drop}
use Rattle.words.specs.Bytes.{Below}
use Rattle.shares.specs.Shares.{merged_at}
use Rattle.comparisons.specs.Merge.{joined}

module _ (f : ℕ → List ℕ) (width : ℕ) where
  pub joined_length : (m : ℕ) → ((h : ℕ) → h < m → length (f h) ≡ width) → length (joined f m) ≡ m * width
  unfolding joined
  joined_length zero each = sym (zero-mul width)
  joined_length (suc m) each =
      length-append (joined f m) (f m) ∙ omega (arith, joined_length m (λ h p. each h (omega arith)), each m (omega arith), suc-mul m width)

  -- word j of list h
  pub joined_at : (m : ℕ) → ((h : ℕ) → h < m → length (f h) ≡ width) → (h j : ℕ) → h < m → j < width
      → get_or (joined f m) (h * width + j) 0 ≡ get_or (f h) j 0
  unfolding joined
  joined_at zero each h j p q = absurd (omega arith)
  joined_at (suc m) each h j p q =
      let long = joined_length m (λ k r. each k (omega arith)) in
      ⊎_elim
      (λ (e : h ≡ m). rw (e, ← long) (get_or-append-add (joined f m) (f m) j 0))
      (λ (l : h < m).
      let room = rw suc-mul at (mul-le-mul_right width l) in
      get_or-append (joined f m) (f m) 0 (h * width + j) (omega (arith, room, long)) ∙ joined_at m (λ k r. each k (omega arith)) h j l q)
      (eq-or-lt_of_le (le_of_suc-le-suc p))

-- ---- numbers below a bound

module _ (bound : ℕ) where
  pub below_append : (xs ys : List ℕ) → Below bound xs → Below bound ys → Below bound (xs ++ ys)
  below_append xs ys a b = record { each = by }
    where
      by : (j : ℕ) → j < length (xs ++ ys) → get_or (xs ++ ys) j 0 < bound
      by j h =
          dite (dec_lt j (length xs))
          (λ p. rw (get_or-append xs ys 0 j p) (a.each j p))
          (λ p.
          let e : j ≡ length xs + (j - length xs) = omega (arith, p) in
          rw (e, get_or-append-add xs ys (j - length xs) 0) (b.each (j - length xs) (omega (arith, p, length-append xs ys))))

  pub below_front : (n : ℕ) (xs : List ℕ) → Below bound xs → Below bound (take n xs)
  below_front n xs b = record { each = λ j h. let p = rw (length-take n xs) at h in rw (get_or-take n xs j 0 (omega arith)) (b.each j (omega arith)) }

  pub below_back : (n : ℕ) (xs : List ℕ) → Below bound xs → Below bound (drop n xs)
  below_back n xs b = record { each = λ j h. let p = rw (length-drop n xs) at h in rw (get_or-drop n xs j 0) (b.each (n + j) (omega arith)) }

  pub below_cons : (x : ℕ) (xs : List ℕ) → x < bound → Below bound xs → Below bound (x ∷ xs)
  below_cons x xs a b = record { each = by }
    where
      by : (j : ℕ) → j < length (x ∷ xs) → get_or (x ∷ xs) j 0 < bound
      by zero h = a
      by (suc j) h = b.each j (omega arith)

  pub below_merged : (add : List ℕ → ℕ) (i n : ℕ) (xs : List ℕ) → add (take n (drop i xs)) < bound → Below bound xs
      → Below bound (merged_at add i n xs)
  below_merged add i n xs a b =
      below_append (take i xs) _ (below_front i xs b) (below_cons (add (take n (drop i xs))) (drop (i + n) xs) a (below_back (i + n) xs b))

  pub below_joined : (f : ℕ → List ℕ) (m : ℕ) → ((h : ℕ) → h < m → Below bound (f h)) → Below bound (joined f m)
  unfolding joined
  below_joined f zero each = record { each = λ j h. absurd (omega arith) }
  below_joined f (suc m) each = below_append (joined f m) (f m) (below_joined f m (λ h p. each h (omega arith))) (each m (omega arith))

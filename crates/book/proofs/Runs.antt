-- The days of a sound book in a run: their entries, their files, and where they end.
use Prim.Native.Nat.{ℕ, zero, suc, ◌+◌, ◌*◌, ◌-◌, ◌≤◌, ◌<◌}
use mathlib.Core.Path.{◌≡◌, refl, sym, ap, ◌∙◌}
use mathlib.Core.List.{List, [], ◌∷◌, ◌++◌, append_assoc}
use native.Mathlib.Nat.{add-zero}
use native.Mathlib.Omega.{arith}
use lib.ListN.{length}
use Rattle.exact.proofs.Lending.{part_length}
use Rattle.moving.specs.Written.{part}
use Rattle.moving.proofs.Written.{part_add}
use Rattle.book.specs.Days.{Day, words_of, entry_bytes, contents_of, files_of}
use Rattle.book.specs.Read.{count_of, date_at, size_at, due_at, day_at, days_from}
use Rattle.book.specs.Sound.{Sound}
use Rattle.book.proofs.Places.{due_suc, due_grows, due_within}

-- where the file behind some days starts
abbrev pub behind : ℕ → List Day → ℕ
behind start [] = start
behind start (day ∷ days) = behind (start + words_of day) days

pub contents_append : (start : ℕ) (xs ys : List Day) → contents_of start (xs ++ ys) ≡ contents_of start xs ++ contents_of (behind start xs) ys
unfolding contents_of
contents_append start [] ys = refl
contents_append start (day ∷ xs) ys =
    rw (contents_append (start + words_of day) xs ys)
    (sym (append_assoc (entry_bytes day.date start (words_of day)) (contents_of (start + words_of day) xs) (contents_of (behind (start + words_of day) xs) ys)))

pub files_append : (xs ys : List Day) → files_of (xs ++ ys) ≡ files_of xs ++ files_of ys
unfolding files_of
files_append [] ys = refl
files_append (day ∷ xs) ys = rw (files_append xs ys) (sym (append_assoc day.file (files_of xs) (files_of ys)))

module _ (room : List ℕ) (sound : Sound room) where
  pub date_is : (k : ℕ) → (day_at room k).date ≡ date_at room k
  unfolding day_at
  date_is k = refl

  pub file_is : (k : ℕ) → k < count_of room → (day_at room k).file ≡ part room (4 * due_at room k) (4 * size_at room k)
  unfolding day_at
  file_is k h = rw (sound.due k h)

  pub file_long : (k : ℕ) → k < count_of room → length (day_at room k).file ≡ 4 * size_at room k
  file_long k h =
      rw (file_is k h) (part_length room (4 * due_at room k) (4 * size_at room k) (omega (arith, due_suc room k, due_within room sound (suc k) h)))

  pub words_are : (k : ℕ) → k < count_of room → words_of (day_at room k) ≡ size_at room k
  words_are k h = rw (file_long k h) (omega arith)

  pub days_count : (k m : ℕ) → length (days_from room k m) ≡ m
  unfolding days_from
  days_count k zero = refl
  days_count k (suc m) = ap suc (days_count (suc k) m)

  pub days_behind : (more k m : ℕ) → k + m ≤ count_of room → behind (due_at room k + more) (days_from room k m) ≡ due_at room (k + m) + more
  unfolding days_from
  days_behind more k zero h = rw add-zero
  days_behind more k (suc m) h =
      let e : due_at room k + more + words_of (day_at room k) ≡ due_at room (suc k) + more = omega (arith, words_are k (omega arith), due_suc room k) in
      let f : suc k + m ≡ k + suc m = omega arith in
      ap (λ s. behind s (days_from room (suc k) m)) e ∙ days_behind more (suc k) m (omega arith) ∙ ap (λ j. due_at room j + more) f

  -- the files of a run of days
  pub files_are : (k m : ℕ) → k + m ≤ count_of room → files_of (days_from room k m) ≡ part room (4 * due_at room k) (4 * due_at room (k + m) - 4 * due_at room k)
  unfolding files_of days_from
  files_are k zero h =
      let e : 4 * due_at room (k + 0) - 4 * due_at room k ≡ 0 = omega (arith, ap (due_at room) (add-zero k)) in
      rw e
  files_are k (suc m) h =
      let f : suc k + m ≡ k + suc m = omega arith in
      let up = due_grows room (suc k) (k + suc m) (omega arith) in
      let at : 4 * due_at room k + 4 * size_at room k ≡ 4 * due_at room (suc k) = omega (arith, due_suc room k) in
      let n : 4 * due_at room (k + suc m) - 4 * due_at room k ≡ 4 * size_at room k + (4 * due_at room (k + suc m) - 4 * due_at room (suc k)) =
      omega (arith, up, due_suc room k) in
      rw (n, part_add room (4 * due_at room k) (4 * size_at room k) (4 * due_at room (k + suc m) - 4 * due_at room (suc k)), at, file_is k (omega arith), ← f)
      (ap (λ l. part room (4 * due_at room k) (4 * size_at room k) ++ l) (files_are (suc k) m (omega arith)))

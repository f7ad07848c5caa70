-- Where the files of a sound book are due.
use Prim.Native.Nat.{ℕ, suc, ◌+◌, ◌*◌, ◌≤◌, ◌<◌}
use mathlib.Core.Path.{◌≡◌, refl}
use mathlib.Core.List.{List}
use native.Mathlib.Nat.{le_refl}
use native.Mathlib.Decide.{le_ind}
use native.Mathlib.Omega.{arith}
use lib.ListN.{length}
use Rattle.book.specs.Read.{count_of, start_at, size_at, due_at}
use Rattle.book.specs.Sound.{Sound}

module _ (room : List ℕ) where
  pub due_first : due_at room 0 ≡ 2 + 3 * count_of room
  unfolding due_at
  due_first = refl

  pub due_suc : (k : ℕ) → due_at room (suc k) ≡ due_at room k + size_at room k
  unfolding due_at
  due_suc k = refl

  pub due_grows : (i k : ℕ) → i ≤ k → due_at room i ≤ due_at room k
  due_grows i k h = le_ind (λ m. due_at room i ≤ due_at room m) (le_refl (due_at room i)) (λ m _ p. omega (arith, p, due_suc m)) k h

module _ (room : List ℕ) (sound : Sound room) where
  pub due_next : (k : ℕ) → k < count_of room → start_at room k + size_at room k ≡ due_at room (suc k)
  due_next k h = omega (arith, due_suc room k, sound.due k h)

  pub due_within : (k : ℕ) → k ≤ count_of room → 4 * due_at room k ≤ length room
  due_within k h = omega (arith, due_grows room k (count_of room) h, sound.inside)

  -- a file lies within the room
  pub file_within : (k : ℕ) → k < count_of room → 4 * start_at room k + 4 * size_at room k ≤ length room
  file_within k h = omega (arith, due_next k h, due_within (suc k) h)

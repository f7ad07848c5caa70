-- Numbers for each hour and direction, one behind the other: how many they are, which stands where, and two of them stored.
use Prim.Native.Nat.{ℕ, zero, suc, ◌+◌, ◌*◌, ◌-◌, ◌<◌}
use mathlib.Core.List.{List, ◌∷◌, ◌++◌}
use mathlib.Core.Path.{◌≡◌, refl}
use native.Mathlib.Nat.{add-zero}
use native.Mathlib.Numerals.{add-one}
use native.Mathlib.Omega.{arith}
use lib.ListN.{length, get_or, drop, set, length-set}
use Rattle.exact.proofs.Filling.{Filling, fill_step, fill_end}
use Rattle.collecting.specs.Directions.{Direction, Upward, Downward, column_at, hours_from}

module _ {A : Type 0} (numbers : ℕ → Direction → A) where
  pub hours_next : (h n : ℕ) → h < n
      → hours_from numbers h (n - h) ≡ numbers h Upward ∷ numbers h Downward ∷ hours_from numbers (h + 1) (n - (h + 1))
  unfolding hours_from
  hours_next h n below =
      let e : n - h ≡ suc (n - (h + 1)) = omega arith in
      rw (e, add-one h)

  -- all that is stored, once no hour is left
  pub hours_filled : {whole before out : List A} (h n : ℕ) → h ≡ n → Filling whole before out (hours_from numbers h (n - h)) (2 * h)
      → out ≡ whole ++ drop (2 * n) before
  unfolding hours_from
  hours_filled h n e filling =
      let none : n - n ≡ 0 = omega arith in
      fill_end (rw (e, none) at filling)

  pub hours_length : (h n : ℕ) → length (hours_from numbers h n) ≡ 2 * n
  unfolding hours_from
  hours_length h zero = refl
  hours_length h (suc n) = omega (arith, hours_length (suc h) n)

  pub hour_there : (h n i : ℕ) (direction : Direction) (none : A) → i < n
      → get_or (hours_from numbers h n) (column_at i direction) none ≡ numbers (h + i) direction
  unfolding hours_from
  hour_there h zero i direction none below = absurd (omega arith)
  hour_there h (suc n) zero Upward none below = rw (add-zero h)
  hour_there h (suc n) zero Downward none below = rw (add-zero h)
  hour_there h (suc n) (suc i) direction none below =
      let place : column_at (suc i) direction ≡ suc (suc (column_at i direction)) = omega arith in
      let hour : h + suc i ≡ suc h + i = omega arith in
      rw (place, hour) (hour_there (suc h) n i direction none (omega arith))

  -- the two numbers of hour h stored behind those of the hours before it
  pub hour_stored : {whole before out : List A} (h n : ℕ) (upward downward : A) → Filling whole before out (hours_from numbers h (n - h)) (2 * h)
      → h < n → 2 * h + 1 < length out → upward ≡ numbers h Upward → downward ≡ numbers h Downward
      → Filling whole before (set (set out (2 * h) upward) (2 * h + 1) downward) (hours_from numbers (h + 1) (n - (h + 1))) (2 * (h + 1))
  hour_stored {whole} {before} {out} h n upward downward filling below room up down =
      let first = fill_step (numbers h Upward) (rw (hours_next h n below) at filling) (omega arith) in
      let second = fill_step (numbers h Downward) first (rw length-set room) in
      let place : 2 * h + 1 + 1 ≡ 2 * (h + 1) = omega arith in
      rw (up, down) (rw place at second)

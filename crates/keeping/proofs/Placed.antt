-- The place that a scan of the contents finds is the place in the list of days.
use Prim.Native.Nat.{ℕ, zero, suc, ◌+◌, ◌-◌, ◌<◌}
use mathlib.Core.Bool.{Bool, true, false, cond, not}
use mathlib.Core.Path.{◌≡◌, refl, sym, ap}
use mathlib.Core.List.{List, ◌∷◌, ◌++◌}
use native.Mathlib.Nat.{add-zero}
use native.Mathlib.Omega.{arith}
use lib.Dec.{eqb, ltb}
use Rattle.book.specs.Days.{Day}
use Rattle.book.specs.Read.{count_of, date_at, day_at, days_from}
use Rattle.keeping.specs.Keeping.{insert_day, remove_day}
use Rattle.keeping_moves.specs.Moves.{added_at, without_at}
use Rattle.keeping_places.specs.Place.{before_first, not_earlier, same_date}

module _ (room : List ℕ) where
  -- the list with a day more, by the place found
  pub inserted : (day : Day) (k m : ℕ)
      → insert_day day (days_from room k m)
      ≡ days_from room k (before_first room (not_earlier day.date) k m) ++ (day ∷ days_from room (k + before_first room (not_earlier day.date) k m) (m - before_first room (not_earlier day.date) k m))
  unfolding insert_day days_from before_first day_at
  inserted day k zero = refl
  inserted day k (suc m) = pick (ltb (date_at room k) day.date) (inserted day (suc k) m)
    where
      pick : (b : Bool)
          → insert_day day (days_from room (suc k) m)
          ≡ days_from room (suc k) (before_first room (not_earlier day.date) (suc k) m) ++ (day ∷ days_from room (suc k + before_first room (not_earlier day.date) (suc k) m)
          (m - before_first room (not_earlier day.date) (suc k) m))
          → cond b (day_at room k ∷ insert_day day (days_from room (suc k) m)) (day ∷ day_at room k ∷ days_from room (suc k) m)
          ≡ days_from room k (cond (not b) 0 (suc (before_first room (not_earlier day.date) (suc k) m))) ++ (day ∷ days_from room
          (k + cond (not b) 0 (suc (before_first room (not_earlier day.date) (suc k) m))) (suc m - cond (not b) 0 (suc (before_first room (not_earlier day.date) (suc k) m))))
      pick true h =
          let a = before_first room (not_earlier day.date) (suc k) m in
          let e : k + suc a ≡ suc k + a = omega arith in
          let f : suc m - suc a ≡ m - a = omega arith in
          rw (e, f) (ap (λ l. day_at room k ∷ l) h)
      pick false h = let f : suc m - 0 ≡ suc m = omega arith in rw (add-zero k, f)

  -- the list with a day less, by the place found
  pub removed : (date k m : ℕ) → before_first room (same_date date) k m < m
      → remove_day date (days_from room k m) ≡ days_from room k (before_first room (same_date date) k m) ++ days_from room (suc (k + before_first room (same_date date) k m))
      (m - suc (before_first room (same_date date) k m))
  unfolding remove_day days_from before_first day_at
  removed date k zero h = absurd (omega (arith, h))
  removed date k (suc m) h = pick (eqb (date_at room k) date) (removed date (suc k) m) h
    where
      pick : (b : Bool)
          → (before_first room (same_date date) (suc k) m < m
          → remove_day date (days_from room (suc k) m) ≡ days_from room (suc k) (before_first room (same_date date) (suc k) m) ++ days_from room
          (suc (suc k + before_first room (same_date date) (suc k) m)) (m - suc (before_first room (same_date date) (suc k) m)))
          → cond b 0 (suc (before_first room (same_date date) (suc k) m)) < suc m
          → cond b (days_from room (suc k) m) (day_at room k ∷ remove_day date (days_from room (suc k) m))
          ≡ days_from room k (cond b 0 (suc (before_first room (same_date date) (suc k) m))) ++ days_from room (suc (k + cond b 0 (suc (before_first room (same_date date) (suc k) m))))
          (suc m - suc (cond b 0 (suc (before_first room (same_date date) (suc k) m))))
      pick true g q =
          let f : suc m - suc 0 ≡ m = omega arith in
          rw (add-zero k, f)
      pick false g q =
          let a = before_first room (same_date date) (suc k) m in
          let e : suc (k + suc a) ≡ suc (suc k + a) = omega arith in
          let f : suc m - suc (suc a) ≡ m - suc a = omega arith in
          rw (e, f) (ap (λ l. day_at room k ∷ l) (g (omega arith)))

  pub added_inserted : (day : Day) (k : ℕ) → k ≡ before_first room (not_earlier day.date) 0 (count_of room)
      → added_at room k day ≡ insert_day day (days_from room 0 (count_of room))
  added_inserted day k e =
      let z : 0 + k ≡ k = omega arith in
      sym (rw (← e, z) at (inserted day 0 (count_of room)))

  pub without_removed : (date k : ℕ) → k ≡ before_first room (same_date date) 0 (count_of room) → k < count_of room
      → without_at room k ≡ remove_day date (days_from room 0 (count_of room))
  without_removed date k e h =
      let z : 0 + k ≡ k = omega arith in
      sym (rw (← e, z) at (removed date 0 (count_of room) (rw e at h)))

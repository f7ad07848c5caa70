-- Where the hours of a body stand.
use Prim.Native.Nat.{ℕ, ◌+◌, ◌≤◌, ◌<◌}
use mathlib.Core.Path.{◌≡◌}
use native.Mathlib.Omega.{arith}
use native.Mathlib.Numerals.{add-one}
use native.Mathlib.Nat.{add-zero, zero-mul, suc-mul, mul-le-mul_right}
use Rattle.limits.specs.Ranges.{day_hours}
use Rattle.hour.specs.Layout.{hour_words}
use Rattle.body.specs.Layout.{body_words, hour_start}

pub first_hour : (points coordinators : ℕ) → hour_start points coordinators 0 ≡ 7 + coordinators
unfolding hour_start
first_hour points coordinators = rw (zero-mul (hour_words points coordinators)) (add-zero _)

module _ (points coordinators h : ℕ) where
  pub hour_next : hour_start points coordinators (h + 1) ≡ hour_start points coordinators h + hour_words points coordinators
  unfolding hour_start
  hour_next = rw (add-one h, suc-mul h (hour_words points coordinators)) (omega arith)

  -- an hour lies within the body
  pub hour_room : h < day_hours → hour_start points coordinators h + hour_words points coordinators ≤ body_words points coordinators
  unfolding hour_start
  hour_room p = omega (arith, rw suc-mul at (mul-le-mul_right (hour_words points coordinators) p))

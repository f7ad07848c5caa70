-- What two tests in one say, and that they hold where it is so.
use Prim.Native.Nat.{ℕ, ◌<◌, ◌≤◌}
use mathlib.Core.Bool.{Bool, true, ◌&&◌}
use mathlib.Core.Path.{◌≡◌}
use lib.Dec.{leb, ltb}
use borrow.Author.Tests.{leb-true, le-leb, ltb-true, lt-ltb}
use Rattle.verdict.proofs.First.{both}

pub both_true : (a b : Bool) → a ≡ true → b ≡ true → (a && b) ≡ true
both_true a b p q = rw (p, q)

-- a number from `least` to `most`
module _ (least number most : ℕ) where
  pub between : (leb least number && leb number most) ≡ true → (least ≤ number) × (number ≤ most)
  between h =
      let b = both (leb least number) (leb number most) h in
      (leb-true least number b.0, leb-true number most b.1)

  pub between_test : (least ≤ number) × (number ≤ most) → (leb least number && leb number most) ≡ true
  between_test h = both_true _ _ (le-leb least number h.0) (le-leb number most h.1)

-- a number above the one before it and at most `most`
module _ (before number most : ℕ) where
  pub above : (ltb before number && leb number most) ≡ true → (before < number) × (number ≤ most)
  above h =
      let b = both (ltb before number) (leb number most) h in
      (ltb-true before number b.0, leb-true number most b.1)

  pub above_test : (before < number) × (number ≤ most) → (ltb before number && leb number most) ≡ true
  above_test h = both_true _ _ (lt-ltb before number h.0) (le-leb number most h.1)

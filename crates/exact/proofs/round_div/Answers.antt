-- `round_div`: the quotient is rounded by the remainder, up from half on for a >= 0, down from half on for a < 0.
use mathlib.Core.Path.{◌≡◌, sym, ap, ◌∙◌}
use mathlib.Core.Bool.{true, false}
use Prim.Native.Nat.{ℕ, zero, suc, ◌-◌, ◌+◌, ◌*◌, ◌/◌, ◌%◌, ◌<◌, ◌≤◌}
use native.Mathlib.Omega.{arith}
use native.Mathlib.Nat.{mod-lt}
use borrow.Author.Tests.{leb-true, leb-false}
use lib.IntN.{ℤ, pos, negsuc, neg_ℤ, nat_abs, sub_ℕ, ◌+ℤ◌, ◌-ℤ◌, ◌*ℤ◌}
use lib.Signed.{quot_z, rem_z, le_z}
use mir.Syntax.{w64}
use mir.Val.{SFits, to_z, of_z}
use mir.ValLaws.{to_z-of_z, to_z_pos}
use Rattle.exact.specs.Round.{round_div}
use Rattle.exact.proofs.Magnitude.{abs_neg, abs_add, abs_mul, sub_ind}
use Rattle.exact.proofs.Difference.{mul_neg, minus_sub, neg_plus_neg}
use Rattle.exact.proofs.Machine.{within}
use Rattle.exact.proofs.Round.{half_up_lem, half_stay, quot_fits, round_fits}
use Rattle.exact.proofs.round_div.Goals as goal

-- ---- by the sign of a, with r the remainder: half of the divisor or more is rounded away from zero

over : (b n : ℕ) → 0 < b → le_z (pos b) (neg_ℤ (pos n)) ≡ true → ⊥
over b zero h t = omega (arith, leb-true b 0 t)
over b (suc n) h t = let z : ◌≡◌ {A = ℕ} 0 1 = cc in omega arith

up : (a : ℤ) (b : ℕ) → 0 < b → le_z (pos b) (pos 2 *ℤ rem_z a (pos b)) ≡ true → quot_z a (pos b) +ℤ pos 1 ≡ round_div a b
unfolding round_div
up (pos a) b h t = ap pos (sym (half_up_lem a b h (leb-true _ _ t)))
up (negsuc a) b h t = absurd (over b (2 * (suc a % b)) h (rw (mul_neg 2 (pos (suc a % b))) at t))

-- what is left of the divisor b after twice the remainder of a number below 0
left : (b r : ℕ) → pos b +ℤ pos 2 *ℤ neg_ℤ (pos r) ≡ sub_ℕ b (2 * r)
left b r = rw (mul_neg 2 (pos r)) (minus_sub b (2 * r))

down : (a : ℤ) (b : ℕ) → 0 < b → le_z (pos b +ℤ pos 2 *ℤ rem_z a (pos b)) (pos 0) ≡ true → quot_z a (pos b) -ℤ pos 1 ≡ round_div a b
unfolding round_div
down (pos a) b h t = absurd (omega (arith, leb-true (b + 2 * (a % b)) 0 t))
down (negsuc a) b h t =
    let r = suc a % b in
    let half : b ≤ 2 * r = sub_ind b (2 * r) (λ z. le_z z (pos 0) ≡ true → b ≤ 2 * r) (λ l _. omega arith)
    (λ l e. omega (arith, leb-true (b - 2 * r) 0 e)) (rw (left b r) at t) in
    neg_plus_neg (suc a / b) 1 ∙ ap (λ n. neg_ℤ (pos n)) (sym (half_up_lem (suc a) b h half))

stay : (a : ℤ) (b : ℕ) → le_z (pos b) (pos 2 *ℤ rem_z a (pos b)) ≡ false → le_z (pos b +ℤ pos 2 *ℤ rem_z a (pos b)) (pos 0) ≡ false
    → quot_z a (pos b) ≡ round_div a b
unfolding round_div
stay (pos a) b t u = ap pos (sym (half_stay a b (leb-false _ _ t)))
stay (negsuc a) b t u =
    let r = suc a % b in
    let half : 2 * r < b = sub_ind b (2 * r) (λ z. le_z z (pos 0) ≡ false → 2 * r < b) (λ l e. let z : ◌≡◌ {A = ℕ} 0 1 = cc in absurd (omega arith))
    (λ l e. omega (arith, leb-false (b - 2 * r) 0 e)) (rw (left b r) at u) in
    ap (λ n. neg_ℤ (pos n)) (sym (half_stay (suc a) b half))

rem_small : (a : ℤ) (b : ℕ) → 0 < b → nat_abs (rem_z a (pos b)) < b
rem_small (pos a) b h = mod-lt a h
rem_small (negsuc a) b h = rw (abs_neg (pos (suc a % b))) (mod-lt (suc a) h)

-- ---- what the code holds: the divisor, the quotient and twice the remainder

module _ (a : ℤ) (b : ℕ) (fits : SFits w64 a) (word : b < 4294967296) (some : 0 < b) where
  abbrev quotient : ℤ
  quotient = to_z w64 (of_z w64 (quot_z (to_z w64 (of_z w64 a)) (to_z w64 b)))

  abbrev twice : ℤ
  twice = to_z w64 (of_z w64 (pos 2 *ℤ to_z w64 (of_z w64 (rem_z (to_z w64 (of_z w64 a)) (to_z w64 b)))))

  divisor-is : to_z w64 b ≡ pos b
  divisor-is = to_z_pos w64 b (omega arith)

  quotient-is : quotient ≡ quot_z a (pos b)
  quotient-is = simp (to_z-of_z w64 _ fits, divisor-is, to_z-of_z w64 _ (quot_fits b fits))

  twice-is : twice ≡ pos 2 *ℤ rem_z a (pos b)
  twice-is =
      let r = rem_z a (pos b) in
      let single : SFits w64 r = within w64 _ (omega (arith, rem_small a b some)) in
      let double : SFits w64 (pos 2 *ℤ r) = within w64 _ (omega (arith, rem_small a b some, abs_mul (pos 2) r)) in
      simp (to_z-of_z w64 _ fits, divisor-is, to_z-of_z w64 _ single, to_z-of_z w64 _ double)

  sum-is : to_z w64 (of_z w64 (to_z w64 b +ℤ twice)) ≡ pos b +ℤ pos 2 *ℤ rem_z a (pos b)
  sum-is =
      let r = rem_z a (pos b) in
      rw (twice-is, divisor-is) (to_z-of_z w64 _ (within w64 _ (omega (arith, rem_small a b some, abs_mul (pos 2) r, abs_add (pos b) (pos 2 *ℤ r)))))

  rounded_up : le_z (to_z w64 b) twice ≡ true → quotient +ℤ pos 1 ≡ round_div a b
  rounded_up t = rw quotient-is (up a b some (rw (twice-is, divisor-is) at t))

  rounded_down : le_z (to_z w64 (of_z w64 (to_z w64 b +ℤ twice))) (pos 0) ≡ true → quotient -ℤ pos 1 ≡ round_div a b
  rounded_down t = rw quotient-is (down a b some (rw sum-is at t))

  rounded_off : le_z (to_z w64 b) twice ≡ false → le_z (to_z w64 (of_z w64 (to_z w64 b +ℤ twice))) (pos 0) ≡ false → quotient ≡ round_div a b
  rounded_off t u = quotient-is ∙ stay a b (rw (twice-is, divisor-is) at t) (rw sum-is at u)

  kept : {z : ℤ} → z ≡ round_div a b → to_z w64 (of_z w64 z) ≡ round_div a b
  kept e = rw e (to_z-of_z w64 _ (round_fits b fits))

pub returns-then-divisor-twice : goal.returns-then-divisor-twice
returns-then-divisor-twice c =
    let a = c.args in
    let w : a.b < 4294967296 = omega arith in
    kept a.a a.b c.ranges.a w c.requires (rounded_up a.a a.b c.ranges.a w c.requires c.if-divisor-twice.true)

pub overflow_sub-result : goal.overflow_sub-result
overflow_sub-result c =
    let a = c.args in
    let w : a.b < 4294967296 = omega arith in
    rw (rounded_down a.a a.b c.ranges.a w c.requires c.if-divisor-twice-le0.true) (round_fits a.b c.ranges.a)

pub returns-then-divisor-twice-le0 : goal.returns-then-divisor-twice-le0
returns-then-divisor-twice-le0 c =
    let a = c.args in
    let w : a.b < 4294967296 = omega arith in
    kept a.a a.b c.ranges.a w c.requires (rounded_down a.a a.b c.ranges.a w c.requires c.if-divisor-twice-le0.true)

pub returns : goal.returns
returns c =
    let a = c.args in
    rounded_off a.a a.b c.ranges.a (omega arith) c.requires c.if-divisor-twice.false c.if-divisor-twice-le0.false

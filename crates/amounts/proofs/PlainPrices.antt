-- The price of a plain hour can be settled with: what its intervals are seen to have is the count and the quantity of their average.
use Prim.Native.Nat.{ℕ, zero, suc, ◌+◌, ◌*◌, ◌≤◌}
use mathlib.Core.Bool.{Bool, true, false, not, cond}
use mathlib.Core.List.{List}
use mathlib.Core.Path.{◌≡◌, refl, sym, ap, ◌∙◌}
use native.Mathlib.Nat.{add-zero, le_refl}
use native.Mathlib.Omega.{arith}
use lib.Dec.{eqb, leb}
use borrow.Author.Tests.{not-true}
use Rattle.verdict.specs.Verdict.{Accepted}
use Rattle.words.specs.Word.{word_at}
use Rattle.words.proofs.Part.{word_part}
use Rattle.limits.specs.Ranges.{least_present}
use Rattle.hour.specs.Layout.{missing}
use Rattle.hour.specs.Plain.{present_from, quantity_from}
use Rattle.body.specs.Layout.{points_of}
use Rattle.price.specs.declared.Average.{Average}
use Rattle.price.specs.Price.{with_interval, average_of, answer_of, quantity_of, price_of}
use Rattle.amounts.specs.Amounts.{pairs_from, price_from, usable_rule}

-- one interval more, present or not
count_more : (average : Average) (quantity price : ℕ) (t : Bool) → missing price ≡ t
    → (with_interval average quantity price).count ≡ average.count + cond (missing price) 0 1
unfolding with_interval
count_more average quantity price true e = rw e (sym (add-zero _))
count_more average quantity price false e = rw e

quantity_more : (average : Average) (quantity price : ℕ) (t : Bool) → missing price ≡ t
    → (with_interval average quantity price).quantity.0 ≡ average.quantity.0 + cond (missing price) 0 quantity
unfolding with_interval
quantity_more average quantity price true e = rw e (sym (add-zero _))
quantity_more average quantity price false e = rw e

module _ (body : List ℕ) (from : ℕ) where
  abbrev pairs : List ℕ
  pairs = pairs_from body from

  quantity-there : (n : ℕ) → suc n ≤ 12 * points_of body → quantity_of pairs n ≡ word_at body (from + 2 * n)
  quantity-there n h = word_part body from (24 * points_of body) (2 * n) (omega arith)

  price-there : (n : ℕ) → suc n ≤ 12 * points_of body → price_of pairs n ≡ word_at body (from + 2 * n + 1)
  price-there n h =
      let e : from + (2 * n + 1) ≡ from + 2 * n + 1 = omega arith in
      word_part body from (24 * points_of body) (2 * n + 1) (omega arith) ∙ ap (word_at body) e

  counted : (n : ℕ) → n ≤ 12 * points_of body → (average_of pairs n).count ≡ present_from body from n
  unfolding average_of present_from
  counted zero h = refl
  counted (suc n) h =
      rw (← price-there n h, ← counted n (omega arith)) (count_more (average_of pairs n) (quantity_of pairs n) (price_of pairs n) _ refl)

  weighed : (n : ℕ) → n ≤ 12 * points_of body → (average_of pairs n).quantity.0 ≡ quantity_from body from n
  unfolding average_of quantity_from
  weighed zero h = refl
  weighed (suc n) h =
      rw (← price-there n h, ← quantity-there n h, ← weighed n (omega arith))
      (quantity_more (average_of pairs n) (quantity_of pairs n) (price_of pairs n) _ refl)

  pub plainly_usable : (place : ℕ) → leb (least_present * points_of body) (present_from body from (12 * points_of body)) ≡ true
      → not (eqb (quantity_from body from (12 * points_of body)) 0) ≡ true → usable_rule place (points_of body) (price_from body from) ≡ Accepted
  unfolding price_from answer_of
  plainly_usable place enough some =
      let n = 12 * points_of body in
      rw (
        ap (λ q. eqb q 0) (weighed n (le_refl n)) ∙ not-true _ some,
        ap (leb (least_present * points_of body)) (counted n (le_refl n)) ∙ enough,
      ) refl

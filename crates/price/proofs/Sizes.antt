-- How large an average gets: it stays within the greatest price times its quantity.
use Rattle.std.proofs.Common.{◌≡◌, ℕ, zero, suc, ◌+◌, ◌*◌, ◌≤◌, Bool, true, false, List, pos, ◌*ℤ◌, nat_abs, refl, zero-le, le_refl, mul-le-mul, add-one, arith}
use Rattle.exact.proofs.Magnitude.{abs_add, abs_mul}
use Rattle.words.specs.Word.{signed_of}
use Rattle.limits.specs.Ranges.{most_market_price, most_quantity}
use Rattle.hour.specs.Layout.{missing}
use Rattle.hour.specs.Kept.{QuantityKept, PriceKept}
use Rattle.price.specs.declared.Average.{Average}
use Rattle.price.specs.Price.{with_interval, average_of, quantity_of, price_of}
use Rattle.price.specs.Ranged.{Ranged}

pub record Sized (average : Average) (n : ℕ) : Type 0 where
  pub value : nat_abs average.value.0 ≤ most_market_price * average.quantity.0
  pub quantity : average.quantity.0 ≤ most_quantity * n
  pub count : average.count ≤ n

with_sized : (a : Average) (n q p : ℕ) → Sized a n → QuantityKept q → PriceKept p → Sized (with_interval a q p) (suc n)
unfolding with_interval
with_sized a n q p s k b = by (missing p) refl
  where
    by : (t : Bool) → missing p ≡ t → Sized (with_interval a q p) (suc n)
    by true e = rw e (record { value = omega (arith, s.value); quantity = omega (arith, s.quantity); count = omega (arith, s.count) })
    by false e =
        let v = a.value.0 in
        let w = pos q *ℤ signed_of p in
        let m : q * nat_abs (signed_of p) ≤ q * most_market_price = mul-le-mul (le_refl q) (b e) in
        rw e (record { value = omega (arith, abs_add v w, abs_mul (pos q) (signed_of p), s.value); quantity = omega (arith, s.quantity); count = omega (arith, s.count) })

pub average_sized : (pairs : List ℕ) (n i : ℕ) → Ranged pairs n → i ≤ n → Sized (average_of pairs i) i
unfolding average_of
average_sized pairs n zero r h = record { value = zero-le; quantity = zero-le; count = zero-le }
average_sized pairs n (suc i) r h =
    with_sized (average_of pairs i) i (quantity_of pairs i) (price_of pairs i) (average_sized pairs n i r (omega arith)) (r.quantity i h) (r.price i h)

pub average_more : (pairs : List ℕ) (i : ℕ) → average_of pairs (i + 1) ≡ with_interval (average_of pairs i) (quantity_of pairs i) (price_of pairs i)
unfolding average_of
average_more pairs i = rw (add-one i)

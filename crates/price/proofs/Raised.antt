-- Sums in which each price stands 2^31 higher: one interval more in them is one interval more in the average that they are of.
use Rattle.std.proofs.Common.{◌≡◌, ℕ, ◌+◌, ◌*◌, ◌<◌, ◌≤◌, Bool, true, false, pos, ◌+ℤ◌, ◌-ℤ◌, ◌*ℤ◌, neg_ℤ, sym, refl, ap, ◌∙◌, le_refl, add-zero, mul_comm, mul-le-mul, mul-zero, mul-add, arith, eqb-true}
use Rattle.exact.proofs.Difference.{crosswise, neg_plus_neg, minus_sub, mul_sub}
use Rattle.words.specs.Word.{signed_of}
use Rattle.words.proofs.Halves.{shifted}
use Rattle.limits.specs.Ranges.{missing_price}
use Rattle.hour.specs.Layout.{missing}
use Rattle.price.specs.declared.Sums.{Sums}
use Rattle.price.specs.Price.{with_interval}
use Rattle.price.specs.Sums.{raised, with_raised, average_from}

differences : (a b c d : ℕ) → pos (a + b) -ℤ pos (c + d) ≡ (pos a -ℤ pos c) +ℤ (pos b -ℤ pos d)
differences a b c d =
    ap (λ z. pos (a + b) +ℤ z) (sym (neg_plus_neg c d)) ∙ crosswise (pos a) (pos b) (neg_ℤ (pos c)) (neg_ℤ (pos d))

-- by this bound no sum of the most intervals wraps: a word is below 2^32
pub product_most : (quantity price : ℕ) → quantity * raised price ≤ 4294967295 * quantity
product_most quantity price =
    let word : raised price ≤ 4294967295 = omega arith in
    omega (arith, mul-le-mul (le_refl quantity) word)

missing_none : (quantity price : ℕ) → missing price ≡ true → quantity * raised price ≡ 0
missing_none quantity price e = rw (eqb-true price missing_price e) (mul-zero quantity)

module _ (quantity price : ℕ) (word : price < 4294967296) where
  -- what a quantity comes to at a price, from what it comes to at the price that stands higher
  at-price : pos (quantity * raised price) -ℤ pos (2147483648 * quantity) ≡ pos quantity *ℤ signed_of price
  at-price =
      rw (
        minus_sub (quantity * raised price) (2147483648 * quantity),
        mul_comm 2147483648 quantity,
        ← mul_sub quantity (raised price) 2147483648,
        ← minus_sub (raised price) 2147483648,
        shifted price (raised price) word refl,
      )

  value-more : (value sum : ℕ) → pos (value + quantity * raised price) -ℤ pos (2147483648 * (sum + quantity))
      ≡ (pos value -ℤ pos (2147483648 * sum)) +ℤ pos quantity *ℤ signed_of price
  value-more value sum =
      rw (mul-add 2147483648 sum quantity, ← at-price)
      (differences value (quantity * raised price) (2147483648 * sum) (2147483648 * quantity))

  pub average_from_more : (sums : Sums) → average_from (with_raised sums quantity price) ≡ with_interval (average_from sums) quantity price
  unfolding average_from with_raised with_interval
  average_from_more sums = by (missing price) refl
    where
      by : (t : Bool) → missing price ≡ t → average_from (with_raised sums quantity price) ≡ with_interval (average_from sums) quantity price
      by true e = rw (missing_none quantity price e) (simp (e, add-zero))
      by false e =
          rw e
          (ap (λ z. record { value = record { 0 = z }; quantity = record { 0 = sums.quantity.0 + quantity }; count = sums.count + 1 })
          (value-more sums.value.0 sums.quantity.0))

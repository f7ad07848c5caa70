-- The answer of an average, how large its price gets, and what a kept check of the pairs tells.
use Rattle.std.proofs.Common.{◌≡◌, ℕ, ◌+◌, ◌*◌, ◌<◌, ◌≤◌, Bool, true, false, eqb, List, nat_abs, refl, zero-le, le_refl, zero-add, arith}
use borrow.Author.Tests.{eqb-false}
use Rattle.exact.proofs.Round.{round_within}
use Rattle.verdict.specs.Verdict.{number_of}
use Rattle.verdict.proofs.First.{scan_each}
use Rattle.words.specs.Word.{word_at}
use Rattle.limits.specs.Ranges.{most_market_price}
use Rattle.hour.specs.Kept.{QuantityKept, PriceKept}
use Rattle.hour.specs.Check.{interval_rule_at, intervals_rule}
use Rattle.hour.proofs.Rules.{pair_kept}
use Rattle.price.specs.declared.Average.{Average}
use Rattle.price.specs.Price.{answer_of, answer_price, average_of, average_price, quantity_of, price_of}
use Rattle.price.specs.Ranged.{Ranged}
use Rattle.price.proofs.Sizes.{Sized, average_sized}

module _ (pairs : List ℕ) (n : ℕ) (accepted : number_of (intervals_rule 0 pairs 0 n) ≡ 0) where
  pair : (i : ℕ) → i < n → QuantityKept (quantity_of pairs i) × PriceKept (price_of pairs i)
  unfolding intervals_rule interval_rule_at
  pair i p =
      let at = 0 + 2 * i in
      simp zero-add at (pair_kept (0 + at) (0 + (at + 1)) (word_at pairs at) (word_at pairs (at + 1)) (scan_each (interval_rule_at 0 pairs 0) n accepted i p))

  pub pairs_ranged : Ranged pairs n
  pairs_ranged = record { quantity = λ i p. (pair i p).0; price = λ i p. (pair i p).1 }

-- ---- a price lies between the prices that it is the average of

answer_by : (average : Average) (n : ℕ) (t : Bool) → eqb average.quantity.0 0 ≡ t → Sized average n
    → nat_abs (answer_price (answer_of average)) ≤ most_market_price
unfolding answer_of
answer_by average n true e z = rw e zero-le
answer_by average n false e z =
    let some : 0 < average.quantity.0 = omega (arith, eqb-false average.quantity.0 0 e) in
    rw e (round_within most_market_price average.value.0 average.quantity.0 some z.value)

pub price_within : (pairs : List ℕ) (n : ℕ) → Ranged pairs n → nat_abs (answer_price (average_price pairs n)) ≤ most_market_price
price_within pairs n r = answer_by (average_of pairs n) n (eqb (average_of pairs n).quantity.0 0) refl (average_sized pairs n n r (le_refl n))

use Rattle.std.proofs.Common.{◌≡◌, ℕ, suc, ◌+◌, ◌-◌, ◌*◌, ◌%◌, ◌<◌, ◌≤◌, Bool, true, false, cond, ◌||◌, leb, nat_abs, sym, refl, ap, ◌∙◌, ap₂, arith, le-leb}
use mathlib.Core.Logic.{dite}
use native.Mathlib.Decide.{dec_lt, dec_le}
use lib.Bits.{bit_and}
use borrow.Author.Tests.{lt-leb}
use Rattle.words.specs.Word.{signed_of}
use Rattle.words.proofs.Halves.{low, high}
use Rattle.limits.specs.Ranges.{most_market_price}
use Rattle.hour.specs.Layout.{missing}
use Rattle.hour.proofs.price_outside.Goals as goal

-- what is within its range by either of two tests
either : (first second : Bool) → bit_and (cond first 0 1) (cond second 0 1) ≡ cond (first || second) 0 1
either true true = refl
either true false = refl
either false true = refl
either false false = refl

-- two tests of numbers that keep their bounds together
same_test : (a m b n : ℕ) → (a ≤ m → b ≤ n) → (b ≤ n → a ≤ m) → leb a m ≡ leb b n
same_test a m b n f g =
    dite (dec_le a m) (λ h. le-leb a m h ∙ sym (le-leb b n (f h)))
    (λ h. lt-leb a m (omega (arith, h)) ∙ sym (lt-leb b n (dite (dec_le b n) (λ k. absurd (h (g k))) (λ k. omega (arith, k)))))

-- a price is in range exactly if it is, as a word and so much higher, within twice the range
higher : (price : ℕ) → price < 4294967296 → leb ((price + most_market_price) % 4294967296) (2 * most_market_price) ≡ leb (nat_abs (signed_of price)) most_market_price
higher price fits =
    let up = (price + most_market_price) % 4294967296 in
    let most = 2 * most_market_price in
    dite (dec_lt price 2147483648)
    (λ l. rw (low price l) (same_test up most price most_market_price (λ h. omega (arith, h)) (λ h. omega (arith, h))))
    (λ l.
    let z : 2147483648 ≤ price = omega (arith, l) in
    rw (high price z fits) (same_test up most (suc (4294967295 - price)) most_market_price (λ h. omega (arith, h)) (λ h. omega (arith, h))))

pub returns : goal.returns
returns c =
    let price = c.args.price in
    let up = c.wrapping_add_u32-higher in
    ap₂ bit_and c.present.ensures c.outside.ensures
    ∙ either (missing price) (leb up.result (2 * most_market_price))
    ∙ ap (λ t. cond (missing price || t) 0 1) (ap (λ n. leb n (2 * most_market_price)) up.ensures.value ∙ higher price (omega arith))

-- Bodies with the same hours but for the demands: their intervals, number by number.
use Prim.Native.Nat.{ℕ, ◌+◌, ◌*◌, ◌<◌}
use mathlib.Core.List.{List}
use mathlib.Core.Logic.{inr}
use mathlib.Core.Path.{◌≡◌, sym, ap, ◌∙◌}
use native.Mathlib.Omega.{arith}
use Rattle.limits.specs.Ranges.{day_hours}
use Rattle.words.specs.Word.{word_at}
use Rattle.body.specs.Layout.{points_of, hour_at, intervals_at, quantity_at, price_at}
use Rattle.comparisons.specs.Merge.{SameHours}
use Rattle.comparisons.proofs.SameAmounts.{SameAmounts}

module _ (body other : List ℕ) (same : SameHours body other) where
  module _ (h m : ℕ) (below : h < day_hours) (inside : m < 12 * points_of body) where
    word_same : (j : ℕ) → j < 24 * points_of body → (k l : ℕ) → hour_at other h + (8 + j) ≡ k → hour_at body h + (8 + j) ≡ l → word_at other k
        ≡ word_at body l
    word_same j p k l here there = ap (word_at other) (sym here) ∙ same.hour h (8 + j) below (omega arith) ∙ ap (word_at body) there

    pub quantity_same : quantity_at other h m ≡ quantity_at body h m
    quantity_same = word_same (2 * m) (omega arith) (intervals_at other h + 2 * m) (intervals_at body h + 2 * m) (omega arith) (omega arith)

    pub price_same : price_at other h m ≡ price_at body h m
    price_same = word_same (2 * m + 1) (omega arith) (intervals_at other h + 2 * m + 1) (intervals_at body h + 2 * m + 1) (omega arith) (omega arith)

  pub same_amounts : SameAmounts body other
  same_amounts =
      record {
        head = same.head;
        number = λ h o p q. same.hour h o p (omega arith);
        price = λ h m p q. price_same h m p q;
        quantity = λ h m p q. inr (quantity_same h m p q);
      }

-- A body of which only the quantity of an interval without a price is changed.
use Prim.Native.Nat.{ℕ, ◌+◌, ◌*◌, ◌<◌}
use mathlib.Core.Bool.{true}
use mathlib.Core.List.{List}
use mathlib.Core.Logic.{◌⊎◌, inl, inr, dite}
use mathlib.Core.Path.{◌≡◌, refl}
use native.Mathlib.Decide.{ℕ_discrete, dec_lt}
use native.Mathlib.Nat.{suc-mul, mul-le-mul_right}
use native.Mathlib.Omega.{arith}
use Rattle.words.specs.Word.{word_at}
use Rattle.hour.specs.Layout.{missing, hour_words}
use Rattle.body.specs.Layout.{hour_start, points_of, coordinators_of, hour_at, intervals_at, price_at, quantity_at}
use Rattle.words.specs.Bytes.{ChangedAt}
use Rattle.comparisons.specs.Changed.{quantity_word, PriceIsMissing}
use Rattle.comparisons.proofs.Alike.{Alike}

module _ (points coordinators : ℕ) where
  earlier : (g h o p : ℕ) → g < h → o < hour_words points coordinators → hour_start points coordinators g + o < hour_start points coordinators h + p
  unfolding hour_start
  earlier g h o p l below = omega (arith, rw (suc-mul g (hour_words points coordinators)) at (mul-le-mul_right (hour_words points coordinators) l))

  -- two words of hours are not the same word, unless they stand at one place in one hour
  two-words : (g h o p : ℕ) → o < hour_words points coordinators → p < hour_words points coordinators → (g ≡ h → o ≡ p → ⊥)
      → hour_start points coordinators g + o ≡ hour_start points coordinators h + p → ⊥
  two-words g h o p below below' apart e =
      dite (dec_lt g h) (λ l. omega (arith, earlier g h o p l below))
      (λ no.
      dite (dec_lt h g) (λ l. omega (arith, earlier h g p o l below'))
      (λ nor. let same : g ≡ h = omega (arith, no, nor) in apart same (omega (arith, rw same at e))))

module _ (body body' : List ℕ) (h i : ℕ) (gone : PriceIsMissing body h i) (changed : ChangedAt (quantity_word body h i) body body') where
  -- a word of an hour that is not the changed one: at another place in its hour, or in another hour
  word_same : (g o w : ℕ) → o < hour_words (points_of body) (coordinators_of body) → (g ≡ h → o ≡ 8 + 2 * i → ⊥) → hour_at body g + o ≡ w
      → word_at body w ≡ word_at body' w
  word_same g o w below apart e =
      changed.others w
      (λ q. two-words (points_of body) (coordinators_of body) g h o (8 + 2 * i) below (omega (arith, gone.interval)) apart (omega (arith, e, q)))

  quantity_same : (g m : ℕ) → m < 12 * points_of body
      → (missing (price_at body g m) ≡ true) ⊎ (quantity_at body g m ≡ word_at body' (intervals_at body g + 2 * m))
  quantity_same g m p =
      dite (ℕ_discrete g h)
      (λ same.
      dite (ℕ_discrete m i)
      (λ there. inl (rw (same, there) gone.price))
      (λ elsewhere. inr (word_same g (8 + 2 * m) _ (omega arith) (λ _ q. elsewhere (omega (arith, q))) (omega arith))))
      (λ other. inr (word_same g (8 + 2 * m) _ (omega arith) (λ q _. other q) (omega arith)))

  pub changed_alike : Alike body body'
  unfolding hour_start
  changed_alike =
      record {
        head = λ j p. changed.others j (λ q. omega arith);
        number = λ g o p. word_same g o _ (omega arith) (λ _ q. omega arith) refl;
        price = λ g m p. word_same g (8 + (2 * m + 1)) _ (omega arith) (λ _ q. omega arith) (omega arith);
        quantity = quantity_same;
        demand = λ g j p. word_same g (8 + 24 * points_of body + j) _ (omega arith) (λ _ q. omega (arith, gone.interval)) (omega arith);
      }

-- Two bodies that differ at most in quantities whose price is missing: they have the same amounts, charges and refusals.
use Prim.Native.Nat.{ℕ, zero, suc, ◌+◌, ◌*◌, ◌≤◌, ◌<◌}
use mathlib.Core.Bool.{true, cond}
use mathlib.Core.List.{List, ◌++◌}
use mathlib.Core.Logic.{◌⊎◌, inl, inr, ⊎_elim}
use mathlib.Core.Path.{◌≡◌, refl, sym, ap, ap₂, ◌∙◌}
use native.Mathlib.Omega.{arith}
use Rattle.verdict.specs.Verdict.{Accepted}
use Rattle.limits.specs.Ranges.{day_hours}
use Rattle.verdict.proofs.First.{scan_same}
use Rattle.words.specs.Word.{word_at}
use Rattle.words.proofs.Words.{words_same}
use Rattle.hour.specs.Layout.{missing}
use Rattle.body.specs.Layout.{days_of, points_of, coordinators_of, hour_at, intervals_at, price_at, quantity_at, demands_at, demand_at, demands_of}
use Rattle.surcharge.specs.declared.Terms.{Terms}
use Rattle.amounts.specs.Amounts.{amount_at, price_answer_at, price_needed, usable_rule, price_rule}
use Rattle.statement.specs.Block.{charges_at, hour_block, hours_block, block}
use Rattle.settlement.specs.Settlement.{chargeable, charge_rule, hour_refusal, hours_refusal}
use Rattle.theorems.proofs.Demands.{charges_same}
use Rattle.comparisons.proofs.SameAmounts.{SameAmounts, amounts_same, amount_same, price_rule_same}

-- word by word: the head with its coordinator numbers, the eight numbers of each hour, its prices, its quantities where the price is there, its demands
pub record Alike (body body' : List ℕ) : Type 0 where
  pub head : (j : ℕ) → j < 7 + coordinators_of body → word_at body j ≡ word_at body' j
  pub number : (g o : ℕ) → o < 8 → word_at body (hour_at body g + o) ≡ word_at body' (hour_at body g + o)
  pub price : (g m : ℕ) → m < 12 * points_of body → price_at body g m ≡ word_at body' (intervals_at body g + 2 * m + 1)
  pub quantity : (g m : ℕ) → m < 12 * points_of body
      → (missing (price_at body g m) ≡ true) ⊎ (quantity_at body g m ≡ word_at body' (intervals_at body g + 2 * m))
  pub demand : (g j : ℕ) → j < coordinators_of body → demand_at body g j ≡ word_at body' (demands_at body g + j)

-- as bodies are whose words are all the same
pub same_alike : (body body' : List ℕ) → ((j : ℕ) → word_at body j ≡ word_at body' j) → Alike body body'
same_alike body body' same =
    record {
      head = λ j p. same j;
      number = λ g o p. same _;
      price = λ g m p. same _;
      quantity = λ g m p. inr (same _);
      demand = λ g j p. same _;
    }

-- ---- of two bodies that are alike

module _ (body body' : List ℕ) (alike : Alike body body') where
  pub points : points_of body ≡ points_of body'
  points = alike.head 5 (omega arith)

  pub coordinators : coordinators_of body ≡ coordinators_of body'
  coordinators = alike.head 6 (omega arith)

  pub at : (g : ℕ) → hour_at body g ≡ hour_at body' g
  at g = rw (points, coordinators)

  same : SameAmounts body body'
  same =
      record {
        head = λ j p. sym (alike.head j (omega arith));
        number = λ h o p q. rw (← at h) (sym (alike.number h o q));
        price = λ h m p q. rw (← at h) (sym (alike.price h m q));
        quantity = λ h m p q. ⊎_elim (λ e. inl e) (λ e. inr (rw (← at h) (sym e))) (alike.quantity h m q);
      }

  pub days : days_of body ≡ days_of body'
  days = alike.head 2 (omega arith)

  demands : (g : ℕ) → demands_at body g ≡ demands_at body' g
  demands g = rw (at g, points)

  demands-same : (g : ℕ) → demands_of body g ≡ demands_of body' g
  demands-same g = rw (← demands g, ← coordinators) (words_same body body' (demands_at body g) (demands_at body g) (coordinators_of body) (alike.demand g))

  module _ (terms : Terms) where
    module _ (g : ℕ) (below : g < day_hours) where
      amount : amount_at terms body g ≡ amount_at terms body' g
      amount = sym (amount_same body body' same terms g below)

      charges : charges_at terms body g ≡ charges_at terms body' g
      charges =
          rw amount
          (charges_same (amount_at terms body' g) _ _ body body' _ _ _ _ (alike.head 0 (omega arith)) coordinators
          (λ j p. rw (← demands g) (alike.demand g j p)))

      hour-same : hour_block terms body g ≡ hour_block terms body' g
      unfolding hour_block
      hour-same = rw (amounts_same body body' same terms g below, charges)

      chargeable-same : chargeable terms body g ≡ chargeable terms body' g
      unfolding chargeable
      chargeable-same = rw (alike.head 0 (omega arith), amount, demands-same g)

      price-there : (start : ℕ) → price_rule terms start body g ≡ price_rule terms start body' g
      unfolding price_rule
      price-there start =
          ap (λ w. cond (price_needed terms body g) (usable_rule (start + (w + 8)) (points_of body) (price_answer_at body g)) Accepted) (at g)
          ∙ sym (price_rule_same body body' same terms g below start)

      -- what the hour refuses
      pub rule_same : (start : ℕ) → hour_refusal terms start body g ≡ hour_refusal terms start body' g
      unfolding hour_refusal charge_rule
      rule_same start = rw (price-there start, chargeable-same, demands g)

    hours-same : (n : ℕ) → n ≤ day_hours → hours_block terms body n ≡ hours_block terms body' n
    unfolding hours_block
    hours-same zero p = refl
    hours-same (suc n) p = ap₂ ◌++◌ (hours-same n (omega arith)) (hour-same n p)

    -- the statement of the area
    pub block_same : block terms body ≡ block terms body'
    block_same = hours-same day_hours (omega arith)

    pub hours_rule_same : (start : ℕ) → hours_refusal terms start body ≡ hours_refusal terms start body'
    unfolding hours_refusal
    hours_rule_same start = scan_same _ _ 0 day_hours (λ g p. rule_same g (omega arith) start)

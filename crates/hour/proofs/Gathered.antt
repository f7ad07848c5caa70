-- Nothing is gathered of an hour exactly if its rule accepts. That two tests are equal says it both ways: where one holds, so does the other.
use Rattle.std.proofs.Common.{◌≡◌, ℕ, zero, suc, ◌+◌, ◌*◌, ◌≤◌, Bool, true, false, cond, ◌&&◌, ◌||◌, eqb, leb, List, nat_abs, sym, refl, ap, ◌∙◌, ap₂, zero-add, add-one, arith, ne_eqb, le-leb, leb-true}
use mathlib.Core.Bool.{and-false}
use lib.Bits.{bit_or, or_add_and, and_le_r}
use Rattle.exact.specs.Total.{total}
use Rattle.words.specs.Word.{word_at, signed_of}
use Rattle.words.specs.Bytes.{words_from}
use Rattle.words.proofs.Totals.{total_more}
use Rattle.limits.specs.Ranges.{most_market_price, most_quantity, most_demand}
use Rattle.verdict.specs.declared.Refusal.TheVariants.{OutOfRange}
use Rattle.verdict.specs.Verdict.{number_of, Accepted, Verdict}
use Rattle.verdict.specs.First.{rule◌else◌then◌, ◌or_else◌, scan}
use Rattle.verdict.proofs.First.{or_accepts, or_assoc, scan_accepts}
use Rattle.hour.specs.Layout.{missing}
use Rattle.hour.specs.Gathered.{Gathered, GatheredFrom}
use Rattle.hour.specs.Plain.{present_from, quantity_from}
use Rattle.hour.specs.Check.{range_rule, pair_rule, demand_rule, interval_rule_at, demand_rule_at, demands_rule, numbers_rule, intervals_rule, hour_rule}
use Rattle.hour.proofs.Rules.{demand_accepts}

-- ---- two gathered numbers, joined

pub joined_least : (a b : ℕ) → a ≤ bit_or a b
joined_least a b = omega (arith, or_add_and a b, and_le_r a b)

joined_none : (a b : ℕ) → eqb (bit_or a b) 0 ≡ (eqb a 0 && eqb b 0)
joined_none zero b = refl
joined_none (suc a) b = rw (ne_eqb (suc a) 0 (λ z. omega arith)) (ne_eqb (bit_or (suc a) b) 0 (λ z. omega (arith, joined_least (suc a) b)))

-- of two parts in order, and of one part more
pub both_gathered : {first second : Verdict} {a b : ℕ} → Gathered first a → Gathered second b → Gathered (first or_else second) (bit_or a b)
both_gathered {first} {second} {a} {b} p q =
    record { exact = joined_none a b ∙ ap₂ ◌&&◌ p.exact q.exact ∙ sym (or_accepts first second) }

pub more_gathered : (part : ℕ → Verdict) {n a b : ℕ} → Gathered (scan part 0 n) a → Gathered (part n) b → Gathered (scan part 0 (n + 1)) (bit_or a b)
more_gathered part {n} {a} {b} p q = record { exact = joined_none a b ∙ ap₂ ◌&&◌ p.exact q.exact ∙ sym (scan_accepts part n) }

-- ---- a number, and an interval

pub range_gathered : (place most number a : ℕ) → a ≡ cond (leb number most) 0 1 → Gathered (range_rule place most number) a
range_gathered place most number a e = record { exact = ap (λ n. eqb n 0) e ∙ by (leb number most) }
  where
    by : (test : Bool) → eqb (cond test 0 1) 0 ≡ eqb (number_of (rule test else OutOfRange place then Accepted)) 0
    by true = refl
    by false = refl

pub pair_gathered : (place next quantity price a b : ℕ) → a ≡ cond (leb quantity most_quantity) 0 1
    → b ≡ cond (missing price || leb (nat_abs (signed_of price)) most_market_price) 0 1 → Gathered (pair_rule place next quantity price) (bit_or a b)
pair_gathered place next quantity price a b e f =
    let priced = missing price || leb (nat_abs (signed_of price)) most_market_price in
    record { exact = ap₂ (λ m n. eqb (bit_or m n) 0) e f ∙ by (leb quantity most_quantity) priced }
  where
    by : (first second : Bool) → eqb (bit_or (cond first 0 1) (cond second 0 1)) 0
        ≡ eqb (number_of (rule first else OutOfRange place then rule second else OutOfRange next then Accepted)) 0
    by true true = refl
    by true false = refl
    by false true = refl
    by false false = refl

-- ---- the intervals: their rule, how many have a price, and the quantities of these

sum_none : (a b : ℕ) → eqb (a + b) 0 ≡ (eqb a 0 && eqb b 0)
sum_none zero b = rw zero-add
sum_none (suc a) b = rw (ne_eqb (suc a) 0 (λ z. omega arith)) (ne_eqb (suc a + b) 0 (λ z. omega arith))

-- what is joined is 0 exactly if the sum is
pub joined_sum : (joined sum more : ℕ) → eqb joined 0 ≡ eqb sum 0 → eqb (bit_or joined more) 0 ≡ eqb (sum + more) 0
joined_sum joined sum more e = joined_none joined more ∙ ap (λ t. t && eqb more 0) e ∙ sym (sum_none sum more)

module _ (body : List ℕ) (from : ℕ) where
  pub none_gathered : GatheredFrom body from 0 0 0 0
  unfolding intervals_rule scan present_from quantity_from
  none_gathered = record { accepted = λ start. record { exact = refl }; counted = refl; some = refl }

  pub interval_gathered : (n outside present quantities quantity price a b p q : ℕ) → GatheredFrom body from n outside present quantities
      → quantity ≡ word_at body (from + 2 * n) → price ≡ word_at body (from + 2 * n + 1) → a ≡ cond (leb quantity most_quantity) 0 1
      → b ≡ cond (missing price || leb (nat_abs (signed_of price)) most_market_price) 0 1 → p ≡ cond (missing price) 0 1 → q ≡ cond (missing price) 0 quantity
      → GatheredFrom body from (n + 1) (bit_or outside (bit_or a b)) (present + p) (bit_or quantities q)
  unfolding intervals_rule interval_rule_at present_from quantity_from
  interval_gathered n outside present quantities quantity price a b p q before e f ranged priced there counted =
      record {
        accepted = λ start.
            more_gathered (interval_rule_at start body from) (before.accepted start) (rw (← e, ← f) (pair_gathered _ _ quantity price a b ranged priced));
        counted = rw (add-one, ← f) (ap₂ ◌+◌ before.counted there);
        some = rw (add-one, ← e, ← f, ← counted) (joined_sum quantities (quantity_from body from n) q before.some);
      }

-- ---- the demands

-- a sum with one demand more keeps the bound exactly if the sum before it does and the demand's rule accepts
demand_more : (place before demand : ℕ) → leb (before + demand) most_demand
    ≡ (leb before most_demand && eqb (number_of (demand_rule place before demand)) 0)
demand_more place before demand = rw (demand_accepts place before demand) (by (leb (before + demand) most_demand) refl)
  where
    by : (t : Bool) → leb (before + demand) most_demand ≡ t → t ≡ (leb before most_demand && (leb demand most_demand && t))
    by true e =
        let h = leb-true (before + demand) most_demand e in
        simp (le-leb before most_demand (omega arith), le-leb demand most_demand (omega arith))
    by false e = simp and-false

module _ (start : ℕ) (body : List ℕ) (from : ℕ) where
  sum_more : (n : ℕ) → leb (total (words_from body from n)) most_demand ≡ eqb (number_of (scan (demand_rule_at start body from) 0 n)) 0
      → leb (total (words_from body from (n + 1))) most_demand ≡ eqb (number_of (scan (demand_rule_at start body from) 0 (n + 1))) 0
  unfolding demand_rule_at
  sum_more n h =
      ap (λ sum. leb sum most_demand) (total_more body from n)
      ∙ demand_more (start + (from + n)) (total (words_from body from n)) (word_at body (from + n))
      ∙ ap (λ t. t && eqb (number_of (demand_rule_at start body from n)) 0) h ∙ sym (scan_accepts (demand_rule_at start body from) n)

  sum_kept : (n : ℕ) → leb (total (words_from body from n)) most_demand ≡ eqb (number_of (scan (demand_rule_at start body from) 0 n)) 0
  unfolding scan total words_from
  sum_kept zero = refl
  sum_kept (suc n) = rw add-one at (sum_more n (sum_kept n))

-- ---- the hour: nothing is gathered of its numbers and its intervals, and its demands together keep their bound, exactly if its rule accepts

pub nothing_gathered : (start : ℕ) (body : List ℕ) (load count at numbers intervals : ℕ) → Gathered (numbers_rule start body at) numbers
    → Gathered (intervals_rule start body (at + 8) (12 * load)) intervals
    → (eqb (bit_or numbers intervals) 0 && leb (total (words_from body (at + 8 + 24 * load) count)) most_demand)
    ≡ eqb (number_of (hour_rule start body load count at)) 0
unfolding hour_rule demands_rule
nothing_gathered start body load count at numbers intervals p q =
    ap₂ ◌&&◌ (both_gathered p q).exact (sum_kept start body (at + 8 + 24 * load) count)
    ∙ sym (or_accepts _ _) ∙ ap (λ v. eqb (number_of v) 0) (or_assoc (numbers_rule start body at) _ _)

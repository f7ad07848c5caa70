-- What a part of the check says of the words that it judges: it accepts when each keeps its rule, and refuses at the first that breaks it.
use Prim.Native.Nat.{ℕ, zero, suc, ◌+◌, ◌<◌, ◌≤◌}
use mathlib.Core.Bool.{Bool, true, false, true≢false}
use mathlib.Core.Logic.{dite}
use mathlib.Core.Path.{◌≡◌, refl, sym, subst}
use native.Mathlib.Decide.{dec_lt}
use native.Mathlib.Omega.{arith}
use lib.Dec.{eqb, leb}
use borrow.Author.Tests.{eqb-true, eqb-false, leb-true, le-leb}
use Rattle.verdict.specs.declared.Refusal.{Refusal}
use Rattle.verdict.specs.Verdict.{refusal_number, refusal_place, number_of, place_of, Accepted, Verdict}
use Rattle.verdict.proofs.Accepted.{no_refusal_is_zero}
use Rattle.verdict.specs.First.{rule◌else◌then◌, ◌or_else◌, scan}
use Rattle.verdict.proofs.First.{or_stop, or_next}

-- ---- the words before p keep their rules, in the ways in which a check is put together

-- of no words
pub record Nothing (p : ℕ) : Type 0 where

-- of one word and the rest
pub record Word (word : ℕ) (Rule : Type 0) (Rest : ℕ → Type 0) (p : ℕ) : Type 0 where
  pub here : word < p → Rule
  pub rest : Rest p

-- of two parts
pub record Both (First Second : ℕ → Type 0) (p : ℕ) : Type 0 where
  pub first : First p
  pub second : Second p

-- of each of the parts k, k + 1, .. up to n
pub record Each (k n : ℕ) (Part : ℕ → ℕ → Type 0) (p : ℕ) : Type 0 where
  pub each : (i : ℕ) → k ≤ i → i < n → Part i p

-- of words of which nothing is said until word `first` stands before p
pub record Behind (first : ℕ) (Part : ℕ → Type 0) (p : ℕ) : Type 0 where
  pub behind : first < p → Part p

pub none : {p : ℕ} → Nothing p
none = record {}

infixr 5 ◌then◌
pub ◌then◌ : {word : ℕ} {Rule : Type 0} {Rest : ℕ → Type 0} {p : ℕ} → (word < p → Rule) → Rest p → Word word Rule Rest p
h then r = record { here = h; rest = r }

infixr 4 ◌and◌
pub ◌and◌ : {First Second : ℕ → Type 0} {p : ℕ} → First p → Second p → Both First Second p
a and b = record { first = a; second = b }

pub for_each : {n : ℕ} {Part : ℕ → ℕ → Type 0} {p : ℕ} → ((i : ℕ) → i < n → Part i p) → Each 0 n Part p
for_each f = record { each = λ i b l. f i l }

-- ---- a verdict on the words from `from` up to `end`, where `Part p` says that those before p keep their rules

pub record Judged (verdict : Verdict) (from end : ℕ) (Part : ℕ → Type 0) : Type 0 where
  -- none of the words stands before the first
  pub early : (p : ℕ) → p ≤ from → Part p
  pub all : number_of verdict ≡ 0 → (p : ℕ) → Part p
  -- a refusal has the number of a word's rule; it names one of the words, those before it keep their rules, and it does not
  pub number : (number_of verdict ≡ 0 → ⊥) → 2 ≤ number_of verdict
  pub not_before : (number_of verdict ≡ 0 → ⊥) → from ≤ place_of verdict
  pub inside : (number_of verdict ≡ 0 → ⊥) → place_of verdict < end
  pub before : (number_of verdict ≡ 0 → ⊥) → Part (place_of verdict)
  pub broken : (number_of verdict ≡ 0 → ⊥) → (p : ℕ) → place_of verdict < p → Part p → ⊥

pub accepted_judged : (from end : ℕ) → Judged Accepted from end Nothing
accepted_judged from end =
    record {
      early = λ p h. none;
      all = λ z p. none;
      number = λ r. absurd (r refl);
      not_before = λ r. absurd (r refl);
      inside = λ r. absurd (r refl);
      before = λ r. none;
      broken = λ r p h k. r refl;
    }

-- a word's rule, and then the rest
module _ (refusal : Refusal) (rest : Verdict) (from end : ℕ) (Rule : Type 0) (Rest : ℕ → Type 0) (word-rule : 2 ≤ refusal_number refusal)
    (behind : refusal_place refusal ≤ from) (room : refusal_place refusal < end) (judged : Judged rest from end Rest) where
  pub rule_judged : (test : Bool) → (test ≡ true → Rule) → (Rule → test ≡ true)
      → Judged (rule test else refusal then rest) (refusal_place refusal) end (Word (refusal_place refusal) Rule Rest)
  rule_judged true keeps kept =
      record {
        early = λ p h. (λ q. keeps refl) then judged.early p (omega arith);
        all = λ z p. (λ q. keeps refl) then judged.all z p;
        number = λ r. judged.number r;
        not_before = λ r. omega (arith, judged.not_before r);
        inside = λ r. judged.inside r;
        before = λ r. (λ q. keeps refl) then judged.before r;
        broken = λ r p h k. judged.broken r p h k.rest;
      }
  rule_judged false keeps kept =
      record {
        early = λ p h. (λ q. absurd (omega arith)) then judged.early p (omega arith);
        all = λ z p. absurd (no_refusal_is_zero refusal z);
        number = λ r. word-rule;
        not_before = λ r. omega arith;
        inside = λ r. room;
        before = λ r. (λ q. absurd (omega arith)) then judged.early _ behind;
        broken = λ r p h k. true≢false (sym (kept (k.here h)));
      }

-- the rule that a number is at most `most`, and then the rest
pub most_judged : (number most : ℕ) (refusal : Refusal) (rest : Verdict) (from end : ℕ) (Rest : ℕ → Type 0) → 2 ≤ refusal_number refusal
    → refusal_place refusal ≤ from → refusal_place refusal < end → Judged rest from end Rest
    → Judged (rule leb number most else refusal then rest) (refusal_place refusal) end (Word (refusal_place refusal) (number ≤ most) Rest)
most_judged number most refusal rest from end Rest word-rule behind room judged =
    rule_judged refusal rest from end (number ≤ most) Rest word-rule behind room judged (leb number most) (leb-true number most) (le-leb number most)

-- two parts in order: the second is judged where the first accepts; of it no more need be known before than that none of its words is early
module _ (first second : Verdict) (from middle end : ℕ) (First Second : ℕ → Type 0) (ordered : from ≤ middle) (room : middle ≤ end)
    (one : Judged first from middle First) (early-two : (p : ℕ) → p ≤ middle → Second p)
    (two : number_of first ≡ 0 → Judged second middle end Second) where
  by : (t : Bool) → eqb (number_of first) 0 ≡ t → Judged (first or_else second) from end (Both First Second)
  by true e =
      let z = eqb-true _ _ e in
      let judged = two z in
      rw (or_next first second z)
      record {
        early = λ p h. one.early p h and judged.early p (omega arith);
        all = λ y p. one.all z p and judged.all y p;
        number = λ r. judged.number r;
        not_before = λ r. omega (arith, judged.not_before r);
        inside = λ r. judged.inside r;
        before = λ r. one.all z _ and judged.before r;
        broken = λ r p h k. judged.broken r p h k.second;
      }
  by false e =
      let no = eqb-false _ _ e in
      rw (or_stop first second no)
      record {
        early = λ p h. one.early p h and early-two p (omega arith);
        all = λ y p. absurd (no y);
        number = λ r. one.number r;
        not_before = λ r. one.not_before r;
        inside = λ r. omega (arith, one.inside r);
        before = λ r. one.before r and early-two _ (omega (arith, one.inside r));
        broken = λ r p h k. one.broken r p h k.first;
      }

  pub or_judged : Judged (first or_else second) from end (Both First Second)
  or_judged = by (eqb (number_of first) 0) refl

-- two parts in order, each judged whatever the other says
pub and_judged : (first second : Verdict) (from middle end : ℕ) (First Second : ℕ → Type 0) → from ≤ middle → middle ≤ end
    → Judged first from middle First → Judged second middle end Second → Judged (first or_else second) from end (Both First Second)
and_judged first second from middle end First Second ordered room one two =
    or_judged first second from middle end First Second ordered room one two.early (λ z. two)

-- the same words, said otherwise
pub judged_as : (verdict : Verdict) (from end : ℕ) (One Other : ℕ → Type 0) → ((p : ℕ) → One p → Other p) → ((p : ℕ) → Other p → One p)
    → Judged verdict from end One → Judged verdict from end Other
judged_as verdict from end One Other there back judged =
    record {
      early = λ p h. there p (judged.early p h);
      all = λ z p. there p (judged.all z p);
      number = judged.number;
      not_before = judged.not_before;
      inside = judged.inside;
      before = λ r. there _ (judged.before r);
      broken = λ r p h k. judged.broken r p h (back p k);
    }

-- none of the words stands before the first, so nothing is lost where they are passed over until then
pub behind_judged : (verdict : Verdict) (from end : ℕ) (Part : ℕ → Type 0) → Judged verdict from end Part → Judged verdict from end (Behind from Part)
behind_judged verdict from end Part judged =
    judged_as verdict from end Part (Behind from Part) (λ p k. record { behind = λ g. k })
    (λ p k. dite (dec_lt from p) (λ g. k.behind g) (λ g. judged.early p (omega (arith, g)))) judged

-- n parts in order, part i from word `from i` up to word `from (i + 1)`
module _ (part : ℕ → Verdict) (from : ℕ → ℕ) (Part : ℕ → ℕ → Type 0) (n : ℕ) (rising : (i : ℕ) → i < n → from i ≤ from (suc i))
    (judged : (i : ℕ) → i < n → Judged (part i) (from i) (from (suc i)) (Part i)) where
  scan-from : (k m : ℕ) → k + m ≡ n → (from k ≤ from n) × Judged (scan part k m) (from k) (from n) (Each k n Part)
  unfolding scan
  scan-from k zero e =
      let last : k ≡ n = omega arith in
      (rw last (omega arith), judged_as Accepted _ _ Nothing _ (λ p h. record { each = λ i a b. absurd (omega arith) }) (λ p h. none) (accepted_judged _ _))
  scan-from k (suc m) e =
      let later = scan-from (suc k) m (omega arith) in
      let here = rising k (omega arith) in (
        omega (arith, here, later.0),
        judged_as _ _ _ (Both (Part k) (Each (suc k) n Part)) _
            (λ p h. record {
              each = λ i a b. dite (dec_lt k i) (λ l. h.second.each i l b)
                  (λ l. subst (λ (j : ℕ). Part j p) (omega (arith, l)) h.first);
            })
            (λ p h. h.each k (omega arith) (omega arith) and record { each = λ i a b. h.each i (omega arith) b })
            (and_judged (part k) (scan part (suc k) m) (from k) (from (suc k)) (from n) (Part k) (Each (suc k) n Part) here later.0
            (judged k (omega arith)) later.1),
      )

  pub scan_judged : (first end : ℕ) → first ≤ from 0 → from n ≤ end → Judged (scan part 0 n) first end (Each 0 n Part)
  scan_judged first end opens closes =
      let whole = (scan-from 0 n (omega arith)).1 in
      record {
        early = λ p h. whole.early p (omega arith);
        all = whole.all;
        number = whole.number;
        not_before = λ r. omega (arith, whole.not_before r);
        inside = λ r. omega (arith, whole.inside r);
        before = whole.before;
        broken = whole.broken;
      }

-- a verdict accepts where every word that it judges keeps its rule
pub judged_accepts : (verdict : Verdict) (from end : ℕ) (Part : ℕ → Type 0) → Judged verdict from end Part → Part end → number_of verdict ≡ 0
judged_accepts verdict from end Part judged kept = by_number (eqb (number_of verdict) 0) refl
  where
    by_number : (t : Bool) → eqb (number_of verdict) 0 ≡ t → number_of verdict ≡ 0
    by_number true e = eqb-true _ _ e
    by_number false e = let no = eqb-false (number_of verdict) 0 e in absurd (judged.broken no end (judged.inside no) kept)

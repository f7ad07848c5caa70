-- The laws of "the first that breaks its rule". They go by accepted and refused alone, so a new refusal touches none of them.
use Prim.Native.Nat.{ℕ, zero, suc, ◌+◌, ◌-◌, ◌<◌, ◌≤◌}
use mathlib.Core.Path.{◌≡◌, refl, sym, ap, ap₂, ◌∙◌, subst}
use mathlib.Core.Bool.{Bool, true, false, cond, ◌&&◌, and-true, and_assoc}
use mathlib.Core.Logic.{dite}
use native.Mathlib.Decide.{ℕ_discrete}
use native.Mathlib.Omega.{arith}
use native.Mathlib.Numerals.{add-one}
use native.Mathlib.Nat.{add-zero, sub-zero, zero-add}
use lib.Dec.{eqb}
use borrow.Author.Tests.{eq-eqb, ne_eqb, eqb-true, eqb-false}
use Rattle.std.specs.Prelude.{Result, Ok, Err, ⊤, IsErrAnd}
use Rattle.std.proofs.lemmas.Result.{err_from_is_err_and}
use Rattle.verdict.specs.declared.Refusal.{Refusal}
use Rattle.verdict.specs.Verdict.{Verdict, Accepted, number_of, refusal_number, verdict_in}
use Rattle.verdict.specs.First.{rule◌else◌then◌, ◌or_else◌, scan}
use Rattle.verdict.proofs.Accepted.{no_refusal_is_zero, accepted_alone}

-- ---- what an acceptance tells

-- a rule that accepts was kept: its test holds, and the rest accepts
pub kept : (test : Bool) (refusal : Refusal) (rest : Verdict) → number_of (rule test else refusal then rest) ≡ 0
    → (test ≡ true) × (number_of rest ≡ 0)
kept true refusal rest z = (refl, z)
kept false refusal rest z = absurd (no_refusal_is_zero refusal z)

pub both : (a b : Bool) → (a && b) ≡ true → (a ≡ true) × (b ≡ true)
both true b h = (refl, h)
both false b h = (h, cc)

-- where the first accepts, the second decides
pub or_accepted : (nothing : ⊤) (second : Verdict) → (Ok nothing or_else second) ≡ second
unfolding ◌or_else◌
or_accepted nothing second = refl

pub or_next : (first second : Verdict) → number_of first ≡ 0 → (first or_else second) ≡ second
or_next first second z = ap (λ v. v or_else second) (accepted_alone first z) ∙ or_accepted _ second

-- where the first refuses, that is the answer
pub or_refused : (refusal : Refusal) (second : Verdict) → (Err refusal or_else second) ≡ Err refusal
unfolding ◌or_else◌
or_refused refusal second = refl

pub or_stop : (first second : Verdict) → (number_of first ≡ 0 → ⊥) → (first or_else second) ≡ first
unfolding ◌or_else◌
or_stop (Ok _) second n = absurd (n refl)
or_stop (Err refusal) second n = refl

-- two parts accept exactly if each does
pub or_accepts : (first second : Verdict)
    → eqb (number_of (first or_else second)) 0 ≡ (eqb (number_of first) 0 && eqb (number_of second) 0)
unfolding ◌or_else◌
or_accepts (Ok _) second = refl
or_accepts (Err refusal) second = rw (ne_eqb _ _ (no_refusal_is_zero refusal))

module _ (first second : Verdict) where
  pub or_first : number_of (first or_else second) ≡ 0 → number_of first ≡ 0
  or_first z = eqb-true _ _ (both _ _ (sym (or_accepts first second) ∙ eq-eqb _ _ z)).0

  pub or_second : number_of (first or_else second) ≡ 0 → number_of second ≡ 0
  or_second z = ap number_of (sym (or_next first second (or_first z))) ∙ z

-- three parts in order, however they are taken together
pub or_assoc : (first second third : Verdict) → ((first or_else second) or_else third) ≡ (first or_else (second or_else third))
unfolding ◌or_else◌
or_assoc (Ok _) second third = refl
or_assoc (Err refusal) second third = refl

-- what stands second is looked at only where the first accepts
pub or_same : (first second other : Verdict) → (number_of first ≡ 0 → second ≡ other) → (first or_else second) ≡ (first or_else other)
unfolding ◌or_else◌
or_same (Ok _) second other e = e refl
or_same (Err refusal) second other e = refl

scan_all : (part : ℕ → Verdict) (k n : ℕ) → number_of (scan part k n) ≡ 0 → (i : ℕ) → i < n → number_of (part (k + i)) ≡ 0
unfolding scan
scan_all part k zero z i h = absurd (omega arith)
scan_all part k (suc n) z zero h = rw add-zero (or_first _ _ z)
scan_all part k (suc n) z (suc i) h =
    let e : k + suc i ≡ suc k + i = omega arith in
    rw e (scan_all part (suc k) n (or_second (part k) _ z) i (omega arith))

-- every part accepts
pub scan_each : (part : ℕ → Verdict) (n : ℕ) → number_of (scan part 0 n) ≡ 0 → (i : ℕ) → i < n → number_of (part i) ≡ 0
scan_each part n z i h = subst (λ (j : ℕ). number_of (part j) ≡ 0) (zero-add i) (scan_all part 0 n z i h)

-- one part more accepts exactly if those before it do and it does
scan_more : (part : ℕ → Verdict) (k n : ℕ)
    → eqb (number_of (scan part k (suc n))) 0 ≡ (eqb (number_of (scan part k n)) 0 && eqb (number_of (part (k + n))) 0)
unfolding scan
scan_more part k zero = rw (or_accepts, and-true, add-zero)
scan_more part k (suc n) =
    let e : k + suc n ≡ suc k + n = omega arith in
    rw (or_accepts (part k) (scan part (suc k) (suc n)), or_accepts (part k) (scan part (suc k) n), scan_more part (suc k) n, e, and_assoc)

pub scan_accepts : (part : ℕ → Verdict) (n : ℕ)
    → eqb (number_of (scan part 0 (n + 1))) 0 ≡ (eqb (number_of (scan part 0 n)) 0 && eqb (number_of (part n)) 0)
scan_accepts part n = rw (add-one, scan_more part 0 n, zero-add)

-- scans whose parts are the same
pub scan_same : (part part' : ℕ → Verdict) (k n : ℕ) → ((i : ℕ) → i < k + n → part i ≡ part' i) → scan part k n ≡ scan part' k n
unfolding scan
scan_same part part' k zero same = refl
scan_same part part' k (suc n) same = ap₂ ◌or_else◌ (same k (omega arith)) (scan_same part part' (suc k) n (λ i p. same i (omega arith)))

-- ---- what holds of an acceptance and of every refusal in sight holds of the answer

pub record Holds (P : Verdict → Type 0) (verdict : Verdict) : Type 0 where
  pub holds : P verdict

module _ (P : Verdict → Type 0) where
  pub rule_holds : (test : Bool) (refusal : Refusal) (rest : Verdict) → (test ≡ false → P (Err refusal)) → (test ≡ true → Holds P rest)
      → Holds P (rule test else refusal then rest)
  rule_holds true refusal rest a b = b refl
  rule_holds false refusal rest a b = record { holds = a refl }

  pub or_holds : (first second : Verdict) → Holds P first → (number_of first ≡ 0 → Holds P second) → Holds P (first or_else second)
  unfolding ◌or_else◌
  or_holds (Ok _) second a b = b refl
  or_holds (Err refusal) second a b = a

  module _ (accepted : Holds P Accepted) where
    scan-holds-from : (part : ℕ → Verdict) (k n : ℕ) → ((i : ℕ) → i < k + n → Holds P (part i)) → Holds P (scan part k n)
    unfolding scan
    scan-holds-from part k zero each = accepted
    scan-holds-from part k (suc n) each = or_holds _ _ (each k (omega arith)) (λ _. scan-holds-from part (suc k) n (λ i p. each i (omega arith)))

    pub scan_holds : (part : ℕ → Verdict) (n : ℕ) → ((i : ℕ) → i < n → Holds P (part i)) → Holds P (scan part 0 n)
    scan_holds part n each = scan-holds-from part 0 n (λ i p. each i (omega arith))

-- so a scan whose parts all accept accepts
pub all_accept : (part : ℕ → Verdict) (n : ℕ) → ((i : ℕ) → i < n → number_of (part i) ≡ 0) → number_of (scan part 0 n) ≡ 0
all_accept part n each =
    (scan_holds (λ (v : Verdict). number_of v ≡ 0) (record { holds = refl }) part n (λ i p. record { holds = each i p })).holds

-- ---- a loop over k from 0 to n, whose answer is `whole`: what each law asks stands in the fields of the goal's record.

unroll : (part : ℕ → Verdict) (k n : ℕ) → k < n → scan part k (n - k) ≡ (part k or_else scan part (k + 1) (n - (k + 1)))
unfolding scan
unroll part k n h =
    let e : n - k ≡ suc (n - (k + 1)) = omega arith in
    rw (e, add-one k)

-- a loop may begin behind parts that accept
pub scan_past : (part : ℕ → Verdict) (k n : ℕ) → k ≤ n → ((i : ℕ) → i < k → number_of (part i) ≡ 0) → scan part 0 n ≡ scan part k (n - k)
scan_past part zero n h each = rw sub-zero
scan_past part (suc k) n h each =
    scan_past part k n (omega arith) (λ i p. each i (omega arith)) ∙ unroll part k n h ∙ or_next _ _ (each k (omega arith)) ∙ rw add-one

-- the part of a turn refuses
pub loop_stop : (whole : Verdict) (part : ℕ → Verdict) (k n : ℕ) (refusal : Refusal) → whole ≡ scan part k (n - k) → k < n
    → part k ≡ Err refusal → Err refusal ≡ whole
loop_stop whole part k n refusal w below is =
    let rest = scan part (k + 1) (n - (k + 1)) in
    sym (w ∙ unroll part k n below ∙ ap (λ v. v or_else rest) is ∙ or_refused refusal rest)

-- the part of a turn accepts
pub loop_next : (whole : Verdict) (part : ℕ → Verdict) (k n : ℕ) (nothing : ⊤) → whole ≡ scan part k (n - k) → k < n
    → part k ≡ Ok nothing → whole ≡ scan part (k + 1) (n - (k + 1))
loop_next whole part k n nothing w below is = w ∙ unroll part k n below ∙ or_next _ _ (ap number_of is)

pub loop_done : (whole : Verdict) (part : ℕ → Verdict) (k n : ℕ) → whole ≡ scan part k (n - k) → n ≤ k → Accepted ≡ whole
unfolding scan
loop_done whole part k n w h =
    let e : n - k ≡ 0 = omega arith in
    sym (w ∙ rw e)

-- ---- parts in order, in the same form

pub seq_stop : (whole first second : Verdict) (refusal : Refusal) → whole ≡ (first or_else second) → first ≡ Err refusal → Err refusal ≡ whole
seq_stop whole first second refusal w is = sym (w ∙ ap (λ v. v or_else second) is ∙ or_refused refusal second)

pub seq_next : (whole first second : Verdict) (nothing : ⊤) → whole ≡ (first or_else second) → first ≡ Ok nothing → whole ≡ second
seq_next whole first second nothing w is = w ∙ or_next _ _ (ap number_of is)

-- ---- what a `?` hands on: the refusal of its call, as it is

pub handed_on : (answer whole : Verdict) (refusal : Refusal) → IsErrAnd answer (λ e. e ≡ refusal) → Err refusal ≡ whole → answer ≡ whole
handed_on (Ok _) whole refusal h e = absurd h
handed_on (Err other) whole refusal h e = ap Err h ∙ e

pub handed_on_in : {T : Type 0} (answer : Result T Refusal) (whole : Verdict) (refusal : Refusal) → IsErrAnd answer (λ e. e ≡ refusal)
    → Err refusal ≡ whole → verdict_in answer ≡ whole
handed_on_in (Ok _) whole refusal h e = absurd h
handed_on_in (Err other) whole refusal h e = ap Err h ∙ e

-- ---- the same for `grind`, which finds what each asks: the parts of a loop, parts in order, and the exit of a `?`

pub scan_stop : (part : ℕ → Verdict) (k n : ℕ) (refusal : Refusal) → k < n → part k ≡ Err refusal → scan part k (n - k) ≡ Err refusal
scan_stop part k n refusal below is = sym (loop_stop _ part k n refusal refl below is)

pub scan_next : (part : ℕ → Verdict) (k n : ℕ) → k < n → part k ≡ Accepted → scan part k (n - k) ≡ scan part (k + 1) (n - (k + 1))
scan_next part k n below is = loop_next _ part k n tt refl below is

pub scan_done : (part : ℕ → Verdict) (k n : ℕ) → n ≤ k → scan part k (n - k) ≡ Accepted
scan_done part k n past = sym (loop_done _ part k n refl past)

pub ruleset in_order = (scan_stop, scan_next, scan_done, or_accepted, or_refused, err_from_is_err_and)

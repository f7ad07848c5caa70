-- "the first that breaks its rule": rules in order, parts in order, and a part for each index in order.
use Rattle.std.specs.Prelude.{ℕ, zero, suc, Bool, cond, Ok, Err}
use Rattle.verdict.specs.declared.Refusal.{Refusal}
use Rattle.verdict.specs.Verdict.{Verdict, Accepted}

-- a rule and then the rest: where the test holds, the rest decides; where it fails, the refusal is the answer
infixr 4 rule◌else◌then◌
abbrev pub rule◌else◌then◌ : Bool → Refusal → Verdict → Verdict
rule test else refusal then rest = cond test rest (Err refusal)

-- two parts in order: where the first accepts, the second decides
infixr 5 ◌or_else◌
unfoldable pub ◌or_else◌ : Verdict → Verdict → Verdict
Ok _ or_else second = second
Err refusal or_else second = Err refusal

-- the parts k, k + 1, .., n of them, in order
unfoldable pub scan : (ℕ → Verdict) → ℕ → ℕ → Verdict
scan part k zero = Accepted
scan part k (suc n) = part k or_else scan part (suc k) n

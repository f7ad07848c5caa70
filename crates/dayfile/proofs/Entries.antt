-- What is known of an entry of accepted contents.
use Prim.Native.Nat.{ℕ, ◌+◌, ◌*◌, ◌/◌, ◌≤◌, ◌<◌}
use mathlib.Core.Bool.{Bool, true, false, cond, ◌&&◌}
use mathlib.Core.List.{List}
use mathlib.Core.Path.{◌≡◌}
use native.Mathlib.Omega.{arith}
use lib.Dec.{leb, ltb, eqb}
use lib.ListN.{length}
use borrow.Author.Tests.{leb-true, ltb-true, eqb-true, eq-eqb}
use Rattle.limits.specs.Ranges.{largest_number, least_body_words}
use Rattle.verdict.specs.Verdict.{number_of}
use Rattle.verdict.proofs.First.{kept, both, scan_each}
use Rattle.contents.specs.File.{number_at, start_at, size_at, number_before, due_at}
use Rattle.dayfile.specs.Check.{entry_rule, entry_rule_at, contents_rule}

-- the end of a body lies within the file, and that of the last with the file
pub within : (t : Bool) (end size : ℕ) → cond t (eqb end size) (leb end size) ≡ true → end ≤ size
within true end size h = let e : end ≡ size = eqb-true end size h in omega arith
within false end size h = leb-true end size h

pub record Entry (most size n k before due number start words : ℕ) : Type 0 where
  pub rising : before < number
  pub small : number ≤ largest_number
  pub here : start ≡ due
  pub least : least_body_words ≤ words
  pub most_words : words ≤ most
  pub inside : start + words ≤ size
  pub last : k + 1 ≡ n → start + words ≡ size

entry_kept : (most size n k at before due number start words : ℕ) → number_of (entry_rule most size n k at before due number start words) ≡ 0
    → Entry most size n k before due number start words
entry_kept most size n k at before due number start words z =
    let a = kept (ltb before number && leb number largest_number) _ _ z in
    let b = kept (eqb start due) _ _ a.1 in
    let end = cond (eqb (k + 1) n) (eqb (start + words) size) (leb (start + words) size) in
    let d = kept (leb least_body_words words && leb words most && end) _ _ b.1 in
    let e = both (leb least_body_words words && leb words most) _ d.0 in
    record {
      rising = ltb-true _ _ (both (ltb before number) _ a.0).0;
      small = leb-true _ _ (both (ltb before number) _ a.0).1;
      here = eqb-true _ _ b.0;
      least = leb-true _ _ (both (leb least_body_words words) _ e.0).0;
      most_words = leb-true _ _ (both (leb least_body_words words) _ e.0).1;
      inside = within (eqb (k + 1) n) _ _ e.1;
      last = λ q. eqb-true _ _ (simp (eq-eqb (k + 1) n q) at e.1);
    }

-- entry k of accepted contents
pub entry : (most : ℕ) (file : List ℕ) (n k : ℕ) → number_of (contents_rule most file n) ≡ 0 → k < n
    → Entry most (length file / 4) n k (number_before file k) (due_at file n k) (number_at file k) (start_at file k) (size_at file k)
unfolding contents_rule entry_rule_at
entry most file n k z h = entry_kept _ _ _ _ (4 + 3 * k) _ _ _ _ _ (scan_each (entry_rule_at most file n) n z k h)

use Rattle.std.proofs.Common.{◌≡◌, ℕ, suc, ◌+◌, ◌-◌, ◌≤◌, ◌<◌, Bool, true, false, cond, ◌&&◌, leb, ltb, List, refl, sym, ◌∙◌, add-one, arith}
use native.Mathlib.Nat.{sub-zero}
use Rattle.locating.specs.Locating.{start_within, size_within, holds, holder_from}
use Rattle.locating.proofs.holder.Goals as goal

-- at k below n: this entry, or the rest
module _ (file : List ℕ) (at k n : ℕ) (below : k < n) where
  unroll : holder_from file at k (n - k) ≡ cond (holds file at k) k (holder_from file at (k + 1) (n - (k + 1)))
  unfolding holder_from
  unroll =
      let e : n - k ≡ suc (n - (k + 1)) = omega arith in
      rw (e, add-one k)

  here : holds file at k ≡ true → holder_from file at k (n - k) ≡ k
  here h = unroll ∙ rw h

  next : holds file at k ≡ false → holder_from file at k (n - k) ≡ holder_from file at (k + 1) (n - (k + 1))
  next h = unroll ∙ rw h

none : (file : List ℕ) (at k n : ℕ) → n ≤ k → holder_from file at k (n - k) ≡ k
unfolding holder_from
none file at k n h =
    let e : n - k ≡ 0 = omega arith in
    rw e

-- whether entry k holds the word, by its two words
asked : (file : List ℕ) (at k start size : ℕ) (held : Bool) → start ≡ start_within file k → size ≡ size_within file k
    → held ≡ (leb start at && ltb at (start + size)) → holds file at k ≡ held
asked file at k start size held e f g = sym (rw (e, f) at g)

pub loop-k-init : goal.loop-k-init
loop-k-init c = simp sub-zero

pub returns-then-holds-clause-found : goal.returns-then-holds-clause-found
returns-then-holds-clause-found c =
    let held = asked _ _ _ _ _ _ c.word-start.ensures c.word-size.ensures c.holds.ensures ∙ c.if-holds.true in
    (sym (c.loop-k.invariant ∙ here _ _ _ _ c.loop-k-test.true held), omega arith)

pub loop-k-preserved : goal.loop-k-preserved
loop-k-preserved c =
    let held = asked _ _ _ _ _ _ c.word-start.ensures c.word-size.ensures c.holds.ensures ∙ c.if-holds.false in
    c.loop-k.invariant ∙ next _ _ _ _ c.loop-k-test.true held

pub returns : goal.returns
returns c =
    let behind = c.loop-k.invariant ∙ none _ _ _ _ c.loop-k-test.false in
    record { found = (omega (arith, behind), omega arith); starts_before = λ other. absurd (other refl) }

-- The payments of a column in room that held nothing: where nobody has a basis, where somebody has, and where nothing was collected.
use Prim.Native.Nat.{ℕ, zero, suc, ◌+◌, ◌≤◌, ◌<◌}
use mathlib.Core.Bool.{Bool, true, false, cond}
use mathlib.Core.List.{List, [], ◌∷◌, ◌++◌}
use mathlib.Core.Path.{◌≡◌, refl, ap, ap₂, ◌∙◌}
use native.Mathlib.Numerals.{add-one}
use native.Mathlib.Omega.{arith}
use borrow.Author.Tests.{eq-eqb, ne_eqb}
use lib.Dec.{eqb}
use lib.IntN.{ℤ, pos}
use lib.ListN.{length, take, drop, set, replicate, length-replicate, get_or-replicate, replicate-append-replicate}
use lib.Seq.{take-append-add, take-suc-set}
use Rattle.exact.specs.Total.{total}
use Rattle.exact.proofs.Filling.{drop_next}
use Rattle.shares.specs.Shares.{shares}
use Rattle.shares.proofs.Length.{shares_length}
use Rattle.shares.proofs.NoDemand.{nobody_charged}
use Rattle.shares.proofs.Nothing as N
use Rattle.paying.specs.Paid.{rest_of, paid_of}

-- m places that hold nothing
abbrev pub room : ℕ → List ℤ
room m = replicate m (pos 0)

pub room_front : (n m : ℕ) → n ≤ m → take n (room m) ≡ room n
room_front zero m h = refl
room_front (suc n) zero h = absurd (omega arith)
room_front (suc n) (suc m) h = ap (λ (l : List ℤ). pos 0 ∷ l) (room_front n m (omega arith))

module _ (collected : ℤ) (basis : List ℕ) where
  abbrev n : ℕ
  n = length basis

  pub paid_none : (m : ℕ) (rest : ℤ) → n < m → total basis ≡ 0 → rest ≡ collected → take (n + 1) (set (room m) n rest) ≡ paid_of collected basis
  unfolding paid_of rest_of
  paid_none m rest fits none e =
      rw (
        add-one n,
        take-suc-set (room m) n rest (rw length-replicate fits),
        room_front n m (omega arith),
        nobody_charged collected basis none,
        eq-eqb (total basis) 0 none,
        e,
      )

  pub paid_some : (m : ℕ) (shared : List ℤ) → n < m → (total basis ≡ 0 → ⊥) → shared ≡ shares collected basis ++ drop n (room m)
      → take (n + 1) shared ≡ paid_of collected basis
  unfolding paid_of rest_of
  paid_some m shared fits some is =
      let own = shares collected basis in
      let long = shares_length collected basis in
      let last : drop n (room m) ≡ pos 0 ∷ drop (n + 1) (room m) =
      drop_next (room m) n (pos 0) (rw length-replicate fits) ∙ ap (λ (z : ℤ). z ∷ drop (n + 1) (room m)) (get_or-replicate m n (pos 0) (pos 0) fits) in
      let place : n + 1 ≡ length own + 1 = omega arith in
      rw (ne_eqb (total basis) 0 some, is, place) (take-append-add own (drop n (room m)) 1 ∙ ap (λ (l : List ℤ). own ++ take 1 l) last)

pub paid_nothing : (basis : List ℕ) → paid_of (pos 0) basis ≡ room (length basis + 1)
unfolding paid_of rest_of
paid_nothing basis =
    ap₂ (λ (l : List ℤ) (z : ℤ). l ++ (z ∷ [])) (N.nothing basis) (either (eqb (total basis) 0)) ∙ replicate-append-replicate (length basis) 1 (pos 0)
  where
    either : (t : Bool) → cond t (pos 0) (pos 0) ≡ pos 0
    either true = refl
    either false = refl

-- A list that is filled from the front, one store a turn, with the numbers of `whole`: for any element type and any definition.
-- `rest` is what is still to be stored: at i, the part of `whole` from there on.
use mathlib.Core.Path.{◌≡◌, refl, sym, ap, ap₂, ◌∙◌}
use mathlib.Core.List.{List, [], ◌∷◌, ◌++◌, append_assoc, append-nil}
use Prim.Native.Nat.{ℕ, ◌+◌, ◌<◌}
use native.Mathlib.Numerals.{add-one}
use native.Mathlib.Omega.{arith}
use lib.ListN.{length, get_or, take, drop, set, length-set, take-append-drop}
use lib.Seq.{drop-cons, drop-drop, take-suc-set, drop-set-lt}

pub record Filling {A : Type 0} (whole out₀ out rest : List A) (i : ℕ) : Type 0 where
  pub kept : length out ≡ length out₀
  pub done : take i out ++ rest ≡ whole
  pub past : drop i out ≡ drop i out₀

pub fill_start : {A : Type 0} (whole out : List A) → Filling whole out out whole 0
fill_start whole out = record { kept = refl; done = refl; past = refl }

pub fill_step : {A : Type 0} {whole out₀ out rest : List A} {i : ℕ} (v : A) → Filling whole out₀ out (v ∷ rest) i → i < length out
    → Filling whole out₀ (set out i v) rest (i + 1)
fill_step {A} {whole} {out₀} {out} {rest} {i} v f h =
    record {
      kept = rw length-set f.kept;
      done = rw (add-one, take-suc-set out i v h, append_assoc) f.done;
      past = drop-set-lt (i + 1) out i v (omega arith) ∙ sym (drop-drop 1 i out) ∙ ap (λ l. drop 1 l) f.past ∙ drop-drop 1 i out₀;
    }

pub fill_end : {A : Type 0} {whole out₀ out : List A} {i : ℕ} → Filling whole out₀ out [] i → out ≡ whole ++ drop i out₀
fill_end {A} {whole} {out₀} {out} {i} f =
    sym (take-append-drop i out) ∙ ap₂ ◌++◌ (sym (append-nil (take i out)) ∙ f.done) f.past

-- what is left to read at i: the number there, and the rest
pub drop_next : {A : Type 0} (l : List A) (i : ℕ) (d : A) → i < length l → drop i l ≡ get_or l i d ∷ drop (i + 1) l
drop_next l i d h = rw (add-one, drop-cons l i d h)

-- A part of a list of numbers that stands in it at a place.
use Prim.Native.Nat.{ℕ, ◌+◌, ◌<◌}
use mathlib.Core.List.{List, [], ◌++◌, append_assoc, append-nil}
use mathlib.Core.Path.{◌≡◌, ◌∙◌}
use native.Mathlib.Omega.{arith}
use lib.IntN.{ℤ, pos}
use lib.ListN.{length, get_or, take, drop, length-append, get_or-append}
use lib.Seq.{take-append_seam, drop_at, get_or-append-add}

pub record Stands (part whole : List ℤ) (at : ℕ) : Type 0 where
  pub before : List ℤ
  pub behind : List ℤ
  pub is : whole ≡ before ++ (part ++ behind)
  pub place : length before ≡ at

-- what stands in a part stands in the whole
pub within : (part middle whole : List ℤ) (i at : ℕ) → Stands part middle i → Stands middle whole at → Stands part whole (at + i)
within part middle whole i at p m =
    record {
      before = m.before ++ p.before;
      behind = p.behind ++ m.behind;
      is = m.is ∙ rw p.is (simp append_assoc);
      place = length-append m.before p.before ∙ omega (arith, p.place, m.place);
    }

-- it still does with more behind the whole
pub followed : (part whole more : List ℤ) (at : ℕ) → Stands part whole at → Stands part (whole ++ more) at
followed part whole more at p =
    record { before = p.before; behind = p.behind ++ more; is = rw p.is (simp append_assoc); place = p.place }

pub last : (front part : List ℤ) (at : ℕ) → length front ≡ at → Stands part (front ++ part) at
last front part at h = record { before = front; behind = []; is = simp append-nil; place = h }

module _ (part whole : List ℤ) (at : ℕ) (stands : Stands part whole at) where
  -- the numbers of the part, taken together
  pub taken : (n : ℕ) → length part ≡ n → take n (drop at whole) ≡ part
  taken n h = rw (stands.is, drop_at stands.before (part ++ stands.behind) at stands.place, ← h) (take-append_seam part stands.behind)

  -- and one by one
  pub number : (i : ℕ) → i < length part → get_or whole (at + i) (pos 0) ≡ get_or part i (pos 0)
  number i h =
      rw (stands.is, ← stands.place)
      (get_or-append-add stands.before (part ++ stands.behind) i (pos 0) ∙ get_or-append part stands.behind (pos 0) i h)

-- A part of a lent list that is lent on: how long it is, and for `&mut xs[a..]` what the list is once the part comes back written from its front.
use mathlib.Core.Path.{◌≡◌, ap, ◌∙◌}
use mathlib.Core.List.{List, [], ◌++◌, append_assoc, append-nil}
use Prim.Native.Nat.{ℕ, ◌+◌, ◌-◌, ◌≤◌}
use native.Mathlib.Nat.{le_refl}
use native.Mathlib.Omega.{arith}
use borrow.Rule.Slice.PartMut.{put_mid}
use lib.ListN.{length, take, drop, length-drop, length-take, drop_of_length-le}
use lib.Seq.{drop_at, take_at, drop-drop, take_all}

-- `written` stands at the front of xs and `before` behind it. The part from a on comes back as `block` and what stood behind it:
-- then `written` and `block` stand at the front of the whole, and `before` behind them.
pub lent_back : {A : Type 0} (written before block xs part : List A) (a k : ℕ) → length written ≡ a → xs ≡ written ++ drop a before
    → part ≡ block ++ drop k (take (length xs - a) (drop a xs))
    → put_mid a (length xs - a) xs part ≡ (written ++ block) ++ drop (a + k) before
lent_back written before block xs part a k at stands came =
    let tail : drop a xs ≡ drop a before = ap (drop a) stands ∙ drop_at written (drop a before) a at in
    let all : take (length xs - a) (drop a xs) ≡ drop a before = take_all (length xs - a) (drop a xs) (rw length-drop (le_refl _)) ∙ tail in
    let none : drop (length xs - a) (drop a xs) ≡ [] = drop_of_length-le (drop a xs) {i = length xs - a} (rw length-drop (le_refl _)) in
    let front : take a xs ≡ written = ap (take a) stands ∙ take_at written (drop a before) a at in
    let back : part ≡ block ++ drop (a + k) before = came ∙ ap (λ l. block ++ drop k l) all ∙ ap (λ l. block ++ l) (drop-drop k a before) in
    rw (none, front, back) (simp (append-nil, append_assoc))

pub part_length : {A : Type 0} (xs : List A) (a n : ℕ) → a + n ≤ length xs → length (take n (drop a xs)) ≡ n
part_length xs a n h = simp (length-take, length-drop) (omega arith)

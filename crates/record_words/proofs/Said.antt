-- The words and the record that they say fix each other; and a place written into the words.
use Prim.Native.Nat.{ℕ, ◌+◌, ◌*◌, ◌-◌, ◌/◌, ◌%◌, ◌<◌}
use mathlib.Core.List.{List}
use mathlib.Core.Logic.{dite}
use mathlib.Core.Path.{◌≡◌, sym, ap, ap₂, ◌∙◌}
use native.Mathlib.Decide.{dec_lt, ℕ_discrete}
use native.Mathlib.Omega.{arith}
use lib.ListN.{length, get_or, set, length-set}
use lib.Seq.{ext_get_or, get_or-set_same, get_or-set_other}
use Rattle.limits.specs.Editions.{most_held}
use Rattle.recording.specs.declared.Place.{Place}
use Rattle.recording.specs.declared.Record.{Record}
use Rattle.recording.specs.Record.{place}
use Rattle.record_words.specs.Words.{record_words, place_in, Says}

-- ---- what is said is fixed

pub record_said : (words : List ℕ) (one other : Record) → length one.places ≡ most_held → length other.places ≡ most_held → Says words one
    → Says words other
    → one ≡ other
record_said words one other h k s t =
    ap₂ with-places (ap₂ with-head (sym s.last ∙ t.last) (sym s.held ∙ t.held))
    (ext_get_or (place 0 0) one.places other.places (h ∙ sym k) (λ i p. sym (s.places i (omega arith)) ∙ t.places i (omega arith)))
  where
    with-head : ℕ → ℕ → Record
    with-head last held = record { last = last; held = held; places = one.places }

    with-places : Record → List Place → Record
    with-places r places = record { last = r.last; held = r.held; places = places }

pub words_said : (r : Record) (one other : List ℕ) → length one ≡ record_words → length other ≡ record_words → Says one r → Says other r → one ≡ other
words_said r one other h k s t = ext_get_or 0 one other (h ∙ sym k) each
  where
    each : (i : ℕ) → i < length one → get_or one i 0 ≡ get_or other i 0
    each i p =
        dite (dec_lt i 2)
        (λ low. dite (ℕ_discrete i 0)
        (λ e. rw e (s.last ∙ sym t.last))
        (λ n. let e : i ≡ 1 = omega arith in rw e (s.held ∙ sym t.held)))
        (λ high.
        let j = (i - 2) / 2 in
        let same : place_in one j ≡ place_in other j = s.places j (omega arith) ∙ sym (t.places j (omega arith)) in
        dite (ℕ_discrete (i % 2) 0)
        (λ e. let at : i ≡ 2 + 2 * j = omega arith in rw at (ap (λ q. q.area) same))
        (λ n. let at : i ≡ 3 + 2 * j = omega arith in rw at (ap (λ q. q.marks) same)))

-- ---- a place written

module _ (words : List ℕ) (k a m : ℕ) (inside : 3 + 2 * k < length words) where
  abbrev pub written : List ℕ
  written = set (set words (2 + 2 * k) a) (3 + 2 * k) m

  pub others_stay : (i : ℕ) → (i ≡ 2 + 2 * k → ⊥) → (i ≡ 3 + 2 * k → ⊥) → get_or written i 0 ≡ get_or words i 0
  others_stay i n o =
      get_or-set_other (set words (2 + 2 * k) a) (3 + 2 * k) i m 0 o ∙ get_or-set_other words (2 + 2 * k) i a 0 n

  pub place_there : place_in written k ≡ place a m
  place_there =
      ap₂ place
      (get_or-set_other (set words (2 + 2 * k) a) (3 + 2 * k) (2 + 2 * k) m 0 (λ e. omega arith)
      ∙ get_or-set_same words (2 + 2 * k) a 0 (omega arith))
      (get_or-set_same (set words (2 + 2 * k) a) (3 + 2 * k) m 0 (rw length-set inside))

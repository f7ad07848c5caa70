-- The laws of a record as a list: places pushed, and the list that ageing leaves, one place after the other.
use Rattle.std.proofs.Common.{◌≡◌, ℕ, suc, ◌+◌, ◌-◌, ◌<◌, ◌≤◌, List, [], ◌∷◌, ◌++◌, length, take, get_or, set, map, refl, sym, ap, ap₂, ◌∙◌}
use Rattle.std.proofs.Common.{arith, append_assoc, append-nil, length-append, length-take}
use Rattle.std.proofs.lemmas.List.{take_more}
use Rattle.std.proofs.lemmas.Grind.{common_steps}
use lib.ListN.{replicate, length-map}
use lib.Seq.{set-append_seam}
use borrow.Author.Tests.{eq-eqb, ne_eqb}
use Rattle.marks.specs.Marks.{aged}
use Rattle.limits.specs.Editions.{most_held}
use Rattle.recording.specs.declared.Place.{Place}
use Rattle.recording.specs.declared.Record.{Record}
use Rattle.recording.specs.Record.{place, entries, record_of, pushed, kept}

-- an array of structs is known by the list of their values
pub length_mapped : {X Y : Type 0} (f : X → Y) (l : List X) (n : ℕ) → length (map f l) ≡ n → length l ≡ n
length_mapped f l n e = sym (length-map l f) ∙ e

-- the list is as long as the record says
pub entries_long : (r : Record) → length r.places ≡ most_held → r.held ≤ most_held → length (entries r) ≡ r.held
entries_long r full few = omega (arith, length-take r.held r.places)

-- ---- places pushed

-- a place pushed on the record of a list makes the record of the list with it at the end
pub push_list : (last : ℕ) (l : List Place) (p : Place) → length l < most_held → pushed (record_of last l) p ≡ record_of last (l ++ (p ∷ []))
push_list last l p h = ap₂ with-places longer stored
  where
    with-places : ℕ → List Place → Record
    with-places n ps = record { last = last; held = n; places = ps }

    longer : length l + 1 ≡ length (l ++ (p ∷ []))
    longer = sym (length-append l (p ∷ []))

    stored : set (l ++ replicate (most_held - length l) (place 0 0)) (length l) p
        ≡ (l ++ (p ∷ [])) ++ replicate (most_held - length (l ++ (p ∷ []))) (place 0 0)
    stored =
        let e : most_held - length l ≡ suc (most_held - length (l ++ (p ∷ []))) = omega (arith, longer) in
        rw e (set-append_seam l (place 0 0) _ p ∙ sym (append_assoc l (p ∷ []) _))

-- the next of some places pushed
pub pushed_next : (last : ℕ) (l ps : List Place) (i : ℕ) (d : Place) (r : Record) → i < length ps → length l + i < most_held
    → r ≡ record_of last (l ++ take i ps) → pushed r (get_or ps i d) ≡ record_of last (l ++ take (i + 1) ps)
pushed_next last l ps i d r h few e =
    let room : length (l ++ take i ps) < most_held = omega (arith, length-append l (take i ps), length-take i ps) in
    rw (e, take_more ps i d h, ← append_assoc l (take i ps) (get_or ps i d ∷ [])) (push_list last (l ++ take i ps) (get_or ps i d) room)

-- ---- ageing

module _ (g : ℕ) where
  kept_append : (xs ys : List Place) → kept g (xs ++ ys) ≡ kept g xs ++ kept g ys
  unfolding kept
  kept_append [] ys = refl
  kept_append (p ∷ xs) ys = grind (arith, common_steps, kept_append xs ys)

  pub kept_out : (p : Place) (l : List Place) → aged p.marks g ≡ 0 → kept g (p ∷ l) ≡ kept g l
  unfolding kept
  kept_out p l e = simp (eq-eqb _ _ e)

  pub kept_in : (p : Place) (l : List Place) → (aged p.marks g ≡ 0 → ⊥) → kept g (p ∷ l) ≡ place p.area (aged p.marks g) ∷ kept g l
  unfolding kept
  kept_in p l n = simp (ne_eqb _ _ n)

  pub kept_most : (l : List Place) → length (kept g l) ≤ length l
  unfolding kept
  kept_most [] = omega arith
  kept_most (p ∷ l) = grind (arith, common_steps, kept_most l)

  -- one turn of ageing: the place at i goes, or its aged marks are pushed
  module _ (last : ℕ) (ps : List Place) (i m : ℕ) (d : Place) (out : Record) (h : i < length ps)
      (stands : out ≡ record_of last (kept g (take i ps))) (marks : m ≡ aged (get_or ps i d).marks g) where
    kept_next : kept g (take (i + 1) ps) ≡ kept g (take i ps) ++ kept g (get_or ps i d ∷ [])
    kept_next = rw (take_more ps i d h) (kept_append (take i ps) (get_or ps i d ∷ []))

    pub age_gone : m ≡ 0 → out ≡ record_of last (kept g (take (i + 1) ps))
    unfolding kept
    age_gone z = rw (kept_next, kept_out (get_or ps i d) [] (sym marks ∙ z), append-nil (kept g (take i ps))) stands

    pub age_stays : (next : Record) → (m ≡ 0 → ⊥) → next ≡ pushed out (place (get_or ps i d).area m) → i < most_held
        → next ≡ record_of last (kept g (take (i + 1) ps))
    unfolding kept
    age_stays next n e l =
        let few : length (kept g (take i ps)) < most_held = omega (arith, kept_most (take i ps), length-take i ps) in
        rw (kept_next, kept_in (get_or ps i d) [] (λ z. n (marks ∙ z)), ← marks)
        (e ∙ ap (λ r. pushed r (place (get_or ps i d).area m)) stands ∙ push_list last (kept g (take i ps)) (place (get_or ps i d).area m) few)

-- The areas of a day marked one after the other: each turn, how long the list grows, and how large the marks.
use Prim.Native.Nat.{ℕ, zero, suc, ◌+◌, ◌-◌, ◌^◌, ◌<◌, ◌≤◌}
use mathlib.Core.Path.{◌≡◌, refl, sym, ap, ap₂, subst, ◌∙◌}
use Rattle.std.proofs.Common.{Option, Some, None}
use mathlib.Core.List.{List, [], ◌∷◌, ◌++◌}
use mathlib.Core.Logic.{dite}
use native.Mathlib.Decide.{dec_lt, ℕ_discrete}
use native.Mathlib.Omega.{arith}
use native.Mathlib.Nat.{le_refl, le_trans}
use lib.ListN.{length, get_or, take, replicate, length-take}
use Rattle.marks.specs.Marks.{aged}
use Rattle.marks.proofs.Bits.{aged_small}
use Rattle.limits.specs.Ranges.{recorded_days}
use Rattle.limits.specs.Editions.{most_held}
use Rattle.recording.specs.declared.Place.{Place}
use Rattle.recording.specs.declared.Record.{Record}
use Rattle.recording.specs.Record.{place, entries, record_of, kept, marked, marked_all, Sound, answered}
use Rattle.recording.proofs.InPlace.{marked_below, marked_same, marked_above, listed_of, entries_of_lem, answer_marked, answer_refused, refused_full, marked_room}
use Rattle.recording.proofs.Lists.{kept_out, kept_in, kept_most}

all_append : (xs ys : List ℕ) (l : List Place) → marked_all (xs ++ ys) l ≡ marked_all ys (marked_all xs l)
unfolding marked_all
all_append [] ys l = refl
all_append (x ∷ xs) ys l = all_append xs ys (marked x l)

-- ---- a list never grows shorter

longer : (a : ℕ) (l : List Place) → length l ≤ length (marked a l)
unfolding marked
longer a [] = omega arith
longer a (p ∷ l) =
    dite (dec_lt p.area a)
    (λ b. rw (marked_below a p l b) (omega (arith, longer a l)))
    (λ b. dite (ℕ_discrete p.area a)
    (λ e. rw (marked_same a p l e) (le_refl _))
    (λ e. let above : a < p.area = omega (arith, b, e) in rw (marked_above a p l above) (omega arith)))

longer_all : (areas : List ℕ) (l : List Place) → length l ≤ length (marked_all areas l)
unfolding marked_all
longer_all [] l = le_refl _
longer_all (a ∷ areas) l = le_trans (longer a l) (longer_all areas (marked a l))

longer_part : (areas more : List ℕ) (l : List Place) → length (marked_all areas l) ≤ length (marked_all (areas ++ more) l)
longer_part areas more l = rw (all_append areas more l) (longer_all more (marked_all areas l))

-- ---- marks below a bound

unfoldable pub Small : ℕ → List Place → Type 0
Small most [] = Unit {0}
Small most (p ∷ l) = (p.marks < most) × Small most l

small_more : (m n : ℕ) (l : List Place) → m ≤ n → Small m l → Small n l
unfolding Small
small_more m n [] h s = tt
small_more m n (p ∷ l) h s = (omega (arith, s.0), small_more m n l h s.1)

small_marked : (most a : ℕ) (l : List Place) → 1 ≤ most → Small most l → Small (most + 1) (marked a l)
unfolding Small marked
small_marked most a [] h s = (omega arith, tt)
small_marked most a (p ∷ l) h s =
    dite (dec_lt p.area a)
    (λ b. rw (marked_below a p l b) (omega (arith, s.0), small_marked most a l h s.1))
    (λ b. dite (ℕ_discrete p.area a)
    (λ e. rw (marked_same a p l e) (omega (arith, s.0), small_more most (most + 1) l (omega arith) s.1))
    (λ e. let above : a < p.area = omega (arith, b, e) in
    rw (marked_above a p l above) (omega arith, (omega (arith, s.0), small_more most (most + 1) l (omega arith) s.1))))

small_kept : (g : ℕ) (l : List Place) → Small (2 ^ recorded_days) (kept g l)
unfolding Small kept
small_kept g [] = tt
small_kept g (p ∷ l) =
    dite (ℕ_discrete (aged p.marks g) 0)
    (λ e. rw (kept_out g p l e) (small_kept g l))
    (λ e. rw (kept_in g p l e) (aged_small p.marks g, small_kept g l))

small_at : (most : ℕ) (l : List Place) (n : ℕ) → 1 ≤ most → Small most l → (i : ℕ) → (get_or (l ++ replicate n (place 0 0)) i (place 0 0)).marks < most
unfolding Small
small_at most [] zero h s i = omega arith
small_at most [] (suc n) h s zero = omega arith
small_at most [] (suc n) h s (suc i) = small_at most [] n h s i
small_at most (p ∷ l) n h s zero = s.0
small_at most (p ∷ l) n h s (suc i) = small_at most l n h s.1 i

small_front : (most : ℕ) (l : List Place) → ((i : ℕ) → (get_or l i (place 0 0)).marks < most) → (n : ℕ) → Small most (take n l)
unfolding Small
small_front most l s zero = tt
small_front most [] s (suc n) = tt
small_front most (p ∷ l) s (suc n) = (s 0, small_front most l (λ i. s (suc i)) n)

-- the record of a list of areas that it has room for, with marks below a bound, is sound
sound_of : (most last : ℕ) (l : List Place) (r : Record) → r ≡ record_of last l → length l ≤ most_held → 1 ≤ most → Small most l → Sound most r
sound_of most last l r e few h s =
    subst (Sound most) (sym e)
    (record { few = few; listed = listed_of (record_of last l) last l refl; small = small_at most l (most_held - length l) h s })

pub aged_sound : (g last : ℕ) (given aged : Record) → given.held ≤ most_held → aged ≡ record_of last (kept g (entries given))
    → Sound (2 ^ recorded_days) aged
aged_sound g last given aged few e =
    sound_of (2 ^ recorded_days) last (kept g (entries given)) aged e
    (omega (arith, kept_most g (entries given), length-take given.held given.places)) (omega arith) (small_kept g (entries given))

-- ---- the areas of a day, marked one after the other

-- some areas are marked, and the marks are below a bound
pub record SoFar (given : Record) (areas : List ℕ) (most : ℕ) (now : Record) : Type 0 where
  pub stands : now ≡ record_of given.last (marked_all areas (entries given))
  pub few : length (marked_all areas (entries given)) ≤ most_held
  pub small : Small most (marked_all areas (entries given))

pub none_yet : (most : ℕ) (given : Record) → Sound most given → SoFar given [] most given
unfolding marked_all
none_yet most given s =
    record {
      stands = s.listed;
      few = omega (arith, s.few, length-take given.held given.places);
      small = small_front most given.places s.small given.held;
    }

module _ (given : Record) (areas : List ℕ) (least : ℕ) (now : Record) (so_far : SoFar given areas least now) where
  pub still_sound : (most : ℕ) → 1 ≤ least → least ≤ most → Sound most now
  still_sound most h k =
      let l = marked_all areas (entries given) in
      sound_of most given.last l now so_far.stands so_far.few (omega arith) (small_more least most l k so_far.small)

  -- no area more
  pub passed_over : SoFar given areas (least + 1) now
  passed_over = record { stands = so_far.stands; few = so_far.few; small = small_more least (least + 1) _ (omega arith) so_far.small }

  -- one area more
  module _ (area : ℕ) (next : Option Record) (came : next ≡ answered now.last (marked area (entries now))) where
    abbrev with_it : List ℕ
    with_it = areas ++ (area ∷ [])

    grown : marked area (entries now) ≡ marked_all with_it (entries given)
    unfolding marked_all
    grown =
        ap (marked area) (ap entries so_far.stands ∙ entries_of_lem given.last (marked_all areas (entries given)))
        ∙ sym (all_append areas (area ∷ []) (entries given))

    -- a list never grows shorter, so a refusal is one for the whole
    pub none_marked : next ≡ None → (more : List ℕ) → None ≡ answered given.last (marked_all (with_it ++ more) (entries given))
    none_marked e more =
        let full = refused_full now.last (marked area (entries now)) (sym e ∙ came) in
        answer_refused given.last (marked_all (with_it ++ more) (entries given)) (omega (arith, ap length grown, longer_part with_it more (entries given)))

    pub one_marked : 1 ≤ least → (after : Record) → next ≡ Some after → SoFar given with_it (least + 1) after
    unfolding marked_all
    one_marked h after e =
        let room = marked_room now.last (marked area (entries now)) after (sym e ∙ came) in
        record {
          stands = room.1 ∙ ap₂ record_of (ap (λ r. r.last) so_far.stands) grown;
          few = rw (← grown) room.0;
          small = rw (all_append areas (area ∷ []) (entries given)) (small_marked least area (marked_all areas (entries given)) h so_far.small);
        }

  pub all_marked : Some now ≡ answered given.last (marked_all areas (entries given))
  all_marked = answer_marked given.last (marked_all areas (entries given)) now so_far.few so_far.stands

-- The lookup hands back the part that the contents entry of the area names, and nothing where there is no such entry or the check refuses the file.
use Prim.Native.Nat.{ℕ, zero, suc, ◌+◌, ◌≤◌, ◌<◌}
use mathlib.Core.List.{List}
use mathlib.Core.Logic.{⊎_elim, dite}
use mathlib.Core.Path.{◌≡◌, refl}
use native.Mathlib.Decide.{ℕ_discrete}
use native.Mathlib.Nat.{eq-or-lt_of_le, le_of_suc-le-suc}
use native.Mathlib.Omega.{arith}
use borrow.Author.Tests.{eq-eqb, ne_eqb}
use Rattle.verdict.specs.Verdict.{number_of}
use Rattle.limits.specs.Editions.{limits_of}
use Rattle.contents.specs.File.{edition_of, areas_of, number_at, number_before}
use Rattle.contents.specs.BodyPart.{body_part}
use Rattle.dayfile.specs.Check.{check_of, check_within}
use Rattle.dayfile.specs.Lookup.{nothing, part_from, lookup_of}
use Rattle.dayfile.proofs.Facts.{within_limits, file_entry}
use Rattle.acceptance.specs.LookedUp.{LookedUp}

module _ (file : List ℕ) (area : ℕ) where
  -- ---- an accepted file: the numbers rise, so no entry before that of the area has its number

  module _ (accepted : number_of (check_of file) ≡ 0) where
    within : number_of (check_within (limits_of (edition_of file)) file) ≡ 0
    within = within_limits file accepted

    rises : (k : ℕ) → suc k < areas_of file → number_at file k < number_at file (suc k)
    unfolding number_before
    rises k p = (file_entry _ file within (suc k) p).rising

    below : (i k : ℕ) → i < k → k < areas_of file → number_at file i < number_at file k
    below i zero p q = absurd (omega arith)
    below i (suc k) p q =
        ⊎_elim (λ (e : i ≡ k). rw e (rises k q)) (λ (l : i < k). omega (arith, rises k q, below i k l (omega arith))) (eq-or-lt_of_le (le_of_suc-le-suc p))

    found : (k : ℕ) → k < areas_of file → number_at file k ≡ area → (m i : ℕ) → i + m ≡ areas_of file → i ≤ k → part_from file area i m ≡ body_part file k
    unfolding part_from
    found k p e zero i s l = absurd (omega arith)
    found k p e (suc m) i s l =
        ⊎_elim
        (λ (q : i ≡ k). rw (q, eq-eqb (number_at file k) area e))
        (λ (q : i < k). rw (ne_eqb (number_at file i) area (λ same. omega (arith, below i k q p))) (found k p e m (suc i) (omega arith) q))
        (eq-or-lt_of_le l)

    there : (k : ℕ) → k < areas_of file → number_at file k ≡ area → lookup_of file area ≡ body_part file k
    unfolding lookup_of
    there k p e = rw (eq-eqb (number_of (check_of file)) 0 accepted) (found k p e (areas_of file) 0 (omega arith) (omega arith))

  refused : (number_of (check_of file) ≡ 0 → ⊥) → lookup_of file area ≡ nothing
  unfolding lookup_of
  refused r = rw (ne_eqb (number_of (check_of file)) 0 r)

  none : ((k : ℕ) → k < areas_of file → number_at file k ≡ area → ⊥) → (m i : ℕ) → i + m ≡ areas_of file → part_from file area i m ≡ nothing
  unfolding part_from
  none away zero i s = refl
  none away (suc m) i s = rw (ne_eqb (number_at file i) area (away i (omega arith))) (none away m (suc i) (omega arith))

  absent : ((k : ℕ) → k < areas_of file → number_at file k ≡ area → ⊥) → lookup_of file area ≡ nothing
  unfolding lookup_of
  absent away =
      dite (ℕ_discrete (number_of (check_of file)) 0)
      (λ z. rw (eq-eqb (number_of (check_of file)) 0 z) (none away (areas_of file) 0 (omega arith)))
      (λ r. rw (ne_eqb (number_of (check_of file)) 0 r))

pub looked_up : (file : List ℕ) (area : ℕ) → LookedUp file area
looked_up file area = record { there = there file area; absent = absent file area; refused = refused file area }

-- Two files with the same contents whose bodies are alike, area by area: they are settled alike, under any d that goes by the area's number and its own days.
use Prim.Native.Nat.{ℕ, zero, suc, ◌≤◌, ◌<◌}
use mathlib.Core.List.{List, ◌++◌}
use mathlib.Core.Path.{◌≡◌, refl, sym, ap, ap₂, ◌∙◌}
use native.Mathlib.Nat.{le_refl}
use native.Mathlib.Omega.{arith}
use lib.IntN.{ℤ}
use lib.ListN.{length}
use Rattle.verdict.specs.Verdict.{number_of}
use Rattle.verdict.proofs.First.{scan_same, or_next}
use Rattle.contents.specs.File.{areas_of, peak_of, number_at, start_at, body_at}
use Rattle.dayfile.specs.Check.{check_of}
use Rattle.statement.specs.Block.{block}
use Rattle.settlement.specs.Settlement.{needed_to, numbers_needed, statement_to, terms_at, hours_refusal, area_refusal, areas_refusal, accepted_rule}
use Rattle.settlement.specs.Settlement.{settle_with, after_with, days_by, settle_by}
use Rattle.settlement.specs.Shown.{statement_left_by}
use Rattle.settlement.proofs.Accepted.{rule_same, statement_same}
use Rattle.comparisons.specs.Days.{ByNumberAndDays}
use Rattle.comparisons.proofs.Alike.{Alike, coordinators, days, block_same, hours_rule_same}

pub record AlikeFiles (file file' : List ℕ) : Type 0 where
  pub areas : areas_of file ≡ areas_of file'
  pub peak : peak_of file ≡ peak_of file'
  pub number : (k : ℕ) → k < areas_of file → number_at file k ≡ number_at file' k
  pub start : (k : ℕ) → k < areas_of file → start_at file k ≡ start_at file' k
  pub body : (k : ℕ) → k < areas_of file → Alike (body_at file k) (body_at file' k)

module _ (file file' : List ℕ) (alike : AlikeFiles file file') where
  needed-same : (n : ℕ) → n ≤ areas_of file → needed_to file n ≡ needed_to file' n
  unfolding needed_to
  needed-same zero p = refl
  needed-same (suc n) p = rw (needed-same n (omega arith), coordinators _ _ (alike.body n p))

  needed : numbers_needed file ≡ numbers_needed file'
  needed = rw (← alike.areas) (needed-same (areas_of file) (le_refl _))

  -- settled with the same days
  module _ (given : ℕ → ℕ) where
    blocks-same : (n : ℕ) → n ≤ areas_of file → statement_to given file n ≡ statement_to given file' n
    unfolding statement_to
    blocks-same zero p = refl
    blocks-same (suc n) p =
        ap₂ ◌++◌ (blocks-same n (omega arith))
        (block_same _ _ (alike.body n p) (terms_at given file n)
        ∙ ap (λ peak. block (record { peak = peak; days = given n }) (body_at file' n)) alike.peak)

    area_same : (k : ℕ) → k < areas_of file → area_refusal given file k ≡ area_refusal given file' k
    unfolding area_refusal
    area_same k p =
        hours_rule_same _ _ (alike.body k p) (terms_at given file k) (start_at file k)
        ∙ ap₂ (λ peak start. hours_refusal (record { peak = peak; days = given k }) start (body_at file' k)) alike.peak (alike.start k p)

    areas-same : areas_refusal given file ≡ areas_refusal given file'
    unfolding areas_refusal
    areas-same = rw (← alike.areas) (scan_same _ _ 0 (areas_of file) (λ k p. area_same k (omega (arith, p))))

    accepted-same : (room : ℕ) → accepted_rule given file room ≡ accepted_rule given file' room
    unfolding accepted_rule
    accepted-same room = rw (needed, areas-same)

  -- and under one d
  module _ (d : ℕ → List ℕ → ℕ) (by : ByNumberAndDays d) (z : number_of (check_of file) ≡ 0) (z' : number_of (check_of file') ≡ 0) where
    d-same : (k : ℕ) → k < areas_of file' → days_by d file k ≡ days_by d file' k
    d-same k p =
        let q : k < areas_of file = omega (arith, alike.areas) in
        ap (λ number. d number (body_at file k)) (alike.number k q)
        ∙ by.same (number_at file' k) (body_at file k) (body_at file' k) (days _ _ (alike.body k q))

    -- the same answer
    pub settle_same : (room : ℕ) → settle_by d file room ≡ settle_by d file' room
    unfolding settle_with
    settle_same room =
        or_next (check_of file) _ z
        ∙ accepted-same (days_by d file) room ∙ rule_same (days_by d file) (days_by d file') file' d-same room
        ∙ sym (or_next (check_of file') _ z')

    blocks-too : statement_to (days_by d file) file (areas_of file) ≡ statement_to (days_by d file') file' (areas_of file')
    blocks-too =
        blocks-same (days_by d file) (areas_of file) (le_refl _)
        ∙ ap (statement_to (days_by d file) file') alike.areas
        ∙ statement_same (days_by d file) (days_by d file') file' d-same (areas_of file') (le_refl _)

    -- and the same statement
    pub left_same : (statement : List ℤ) → statement_left_by d file statement ≡ statement_left_by d file' statement
    unfolding after_with
    left_same statement = rw (settle_same (length statement), needed, blocks-too)

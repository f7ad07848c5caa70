-- A file that the check accepts is one that settlement can work on, and what settling it with other but equal days comes to.
use Prim.Native.Nat.{ℕ, zero, suc, ◌≤◌, ◌<◌}
use mathlib.Core.List.{List, [], ◌++◌}
use mathlib.Core.Path.{◌≡◌, refl, sym, ap, ap₂, ◌∙◌}
use native.Mathlib.Omega.{arith}
use lib.ListN.{length, get_or, drop}
use lib.IntN.{ℤ}
use borrow.Author.Tests.{eq-eqb, ne_eqb, lt-ltb, le-ltb}
use Rattle.limits.specs.declared.Limits.{Limits}
use Rattle.limits.specs.Ranges.{proved_points}
use Rattle.limits.specs.Editions.{limits_of}
use Rattle.limits.proofs.Editions.{proved}
use Rattle.verdict.specs.Verdict.{number_of, Verdict}
use Rattle.verdict.specs.First.{◌or_else◌}
use Rattle.verdict.proofs.First.{or_next, scan_same}
use Rattle.body.proofs.Kept.{always, sound_more}
use Rattle.contents.specs.File.{edition_of, areas_of, peak_of, start_at, body_at}
use Rattle.dayfile.specs.Check.{check_of, check_within}
use Rattle.dayfile.proofs.Facts.{within_limits, file_head, file_entry}
use Rattle.acceptance.proofs.SoundAccepted.{file_sound}
use Rattle.surcharge.specs.declared.Terms.{Terms}
use Rattle.statement.specs.Block.{block}
use Rattle.settlement.specs.SoundFile.{SoundFile, DaysKept, Settleable}
use Rattle.settlement.specs.Settlement.{numbers_needed, terms_at, hours_refusal, area_refusal, areas_refusal, accepted_rule, statement_to, after_with}
use Rattle.settlement.specs.Settlement.{settle_with, days_in, terms_in, listed, days_by, own_days, settle_of, after}

module _ (file : List ℕ) (accepted : number_of (check_of file) ≡ 0) where
  -- the limits that the file's first word sets
  abbrev limits : Limits
  limits = limits_of (edition_of file)

  abbrev within : number_of (check_within limits file) ≡ 0
  within = within_limits file accepted

  pub sound_file : SoundFile file
  sound_file =
      let head = file_head limits file within in
      let p = proved (edition_of file) in
      record {
        few = omega (arith, head.few, p.areas);
        room = head.room;
        inside = λ k h. omega (arith, (file_entry limits file within k h).inside);
        body = λ k h. sound_more limits.points (body_at file k) (file_sound limits file within k h) proved_points p.points;
      }

  -- the file's own days are in range
  pub own_kept : DaysKept (days_by own_days file) file
  own_kept = record { each = λ k h. (sound_file.body k h).days always }

pub opened : (file : List ℕ) (room : ℕ) → settle_of file room ≡ (check_of file or_else accepted_rule (days_by own_days file) file room)
unfolding settle_with
opened file room = refl

-- ---- other days that are the same for each area of the file

module _ (one other : ℕ → ℕ) (file : List ℕ) (same : (k : ℕ) → k < areas_of file → one k ≡ other k) where
  pub refusals_same : areas_refusal one file ≡ areas_refusal other file
  unfolding areas_refusal area_refusal
  refusals_same =
      scan_same (area_refusal one file) (area_refusal other file) 0 (areas_of file)
      (λ k h. ap (λ d. hours_refusal (terms_at (λ _. d) file k) (start_at file k) (body_at file k)) (same k (omega (arith, h))))

  pub rule_same : (room : ℕ) → accepted_rule one file room ≡ accepted_rule other file room
  unfolding accepted_rule
  rule_same room = rw refusals_same

  pub statement_same : (n : ℕ) → n ≤ areas_of file → statement_to one file n ≡ statement_to other file n
  unfolding statement_to
  statement_same zero h = refl
  statement_same (suc k) h = ap₂ ◌++◌ (statement_same k (omega arith)) (ap (λ d. block (terms_at (λ _. d) file k) (body_at file k)) (same k h))

  pub after_same : (verdict : Verdict) (statement : List ℤ) → after_with one file verdict statement ≡ after_with other file verdict statement
  unfolding after_with
  after_same verdict statement = rw (statement_same (areas_of file) (omega arith))

-- ---- the d of each area in a list

-- a list that has a d in its range for each area
pub settleable : (list : List ℕ) (days : ℕ → ℕ) (file : List ℕ) → SoundFile file → DaysKept days file
    → ((k : ℕ) → k < areas_of file → listed list file k ≡ days k) → Settleable list file
settleable list days file sound kept is = record { sound = sound; kept = record { each = λ k h. omega (arith, is k h, kept.each k h) } }

-- the terms that `terms_of` makes for area k of a file
pub terms_there : (list file : List ℕ) (k peak : ℕ) (body : List ℕ) (terms : Terms) → terms ≡ terms_in peak list k body → peak ≡ peak_of file
    → body ≡ body_at file k → terms ≡ terms_at (listed list file) file k
terms_there list file k peak body terms e f g = e ∙ rw (f, g)

pub in_list : (list file : List ℕ) (k : ℕ) → k < length list → listed list file k ≡ get_or list k 0
unfolding days_in
in_list list file k h = rw (lt-ltb k (length list) h)

-- with an empty list each area has its own
pub no_list : (file : List ℕ) (k : ℕ) → listed [] file k ≡ days_by own_days file k
unfolding days_in
no_list file k = rw (le-ltb k 0 (omega arith))

pub own_settleable : (file : List ℕ) → number_of (check_of file) ≡ 0 → Settleable [] file
own_settleable file accepted =
    settleable [] (days_by own_days file) file (sound_file file accepted) (own_kept file accepted) (λ k h. no_list file k)

-- ---- the statement after a refusal, and after none

module _ (days : ℕ → ℕ) (file : List ℕ) (v : Verdict) (statement : List ℤ) where
  pub refused : (number_of v ≡ 0 → ⊥) → statement ≡ after_with days file v statement
  unfolding after_with
  refused h = rw (ne_eqb (number_of v) 0 h)

  pub settled : number_of v ≡ 0 → statement_to days file (areas_of file) ++ drop (numbers_needed file) statement ≡ after_with days file v statement
  unfolding after_with
  settled h = rw (eq-eqb (number_of v) 0 h)

-- ---- past the check, with no list: what settling answers and leaves

pub past_check : (file : List ℕ) (statement came : List ℤ) (v : Verdict) → number_of (check_of file) ≡ 0
    → v ≡ accepted_rule (listed [] file) file (length statement) → came ≡ after_with (listed [] file) file v statement
    → (v ≡ settle_of file (length statement)) × (came ≡ after v file statement)
past_check file statement came v accepted is left =
    let own = days_by own_days file in (
      is
          ∙ rule_same (listed [] file) own file (λ k h. no_list file k) (length statement)
          ∙ sym (opened file (length statement) ∙ or_next (check_of file) (accepted_rule own file (length statement)) accepted),
      left ∙ after_same (listed [] file) own file (λ k h. no_list file k) v statement,
    )

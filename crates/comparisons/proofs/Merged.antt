-- Demand 3, merged coordinators: neighbouring coordinators of the CISO area replaced by one are charged, in every hour, what they were charged together;
-- everybody else's charge, every amount and every other area's block are the same.
use Prim.Native.Nat.{ℕ, zero, suc, ◌≤◌, ◌<◌}
use mathlib.Core.List.{List, ◌++◌}
use mathlib.Core.Logic.{dite}
use mathlib.Core.Path.{◌≡◌, sym, ap, ap₂, ◌∙◌}
use native.Mathlib.Decide.{ℕ_discrete}
use native.Mathlib.Omega.{arith}
use lib.IntN.{ℤ}
use lib.ListN.{length, take}
use Rattle.words.specs.Bytes.{Below}
use Rattle.limits.specs.Ranges.{day_hours}
use Rattle.verdict.specs.Verdict.{number_of}
use Rattle.body.specs.Layout.{kind_of, coordinators_of}
use Rattle.contents.specs.File.{areas_of, number_at, body_at}
use Rattle.dayfile.specs.Check.{check_of}
use Rattle.shares.specs.Shares.{sum, merged_at}
use Rattle.statement.specs.Block.{amounts_shown, block, hour_block, amounts_at, charges_at}
use Rattle.settlement.specs.Settlement.{needed_to, days_by, terms_by, own_days, settle_by}
use Rattle.settlement.specs.Shown.{statement_left_by, hour_shown, charges_shown}
use Rattle.settlement.proofs.Shown.{hour_shown_lem, charges_shown_lem}
use Rattle.comparisons.specs.Days.{ByNumberAndDays}
use Rattle.comparisons.specs.Merge.{Mergeable, MergedFile, merge}
use Rattle.comparisons.proofs.Days.{own_by}
use Rattle.comparisons.proofs.MergeAccepted.{merge_accepted, merge_merges}
use Rattle.comparisons.proofs.MergedBody.{days_same, hour_settled_too, hour_merged}
use Rattle.theorems.proofs.SettledExactly.{HourSettled, settled_says, settled_accepts}

-- ---- under any d that goes by the area's number and its own days

module _ (d : ℕ → List ℕ → ℕ) (by : ByNumberAndDays d) (i n : ℕ) (file other : List ℕ) (m : MergedFile i n file other) where
  fewer : (k : ℕ) → k < areas_of file → coordinators_of (body_at other k) ≤ coordinators_of (body_at file k)
  fewer k p =
      dite (ℕ_discrete (kind_of (body_at file k)) 1)
      (λ e. let one = m.ciso k p e in omega (arith, one.some, one.fewer))
      (λ e. rw (m.rest k p e) (omega arith))

  needs-less : (k : ℕ) → k ≤ areas_of file → needed_to other k ≤ needed_to file k
  unfolding needed_to
  needs-less zero p = omega arith
  needs-less (suc k) p = omega (arith, needs-less k (omega arith), fewer k p)

  module _ (k : ℕ) (below : k < areas_of file) where
    -- both are settled under the same terms
    d-same : days_by d other k ≡ days_by d file k
    d-same =
        dite (ℕ_discrete (kind_of (body_at file k)) 1)
        (λ e. ap (λ number. d number (body_at other k)) (m.number k below) ∙ sym (by.same (number_at file k) _ _ (days_same i n _ _ (m.ciso k below e))))
        (λ e. ap₂ d (m.number k below) (m.rest k below e))

    terms-same : terms_by d other k ≡ terms_by d file k
    terms-same = rw (m.peak, d-same)

    hour-too : (h : ℕ) → h < day_hours → HourSettled (terms_by d file k) (body_at file k) h → HourSettled (terms_by d other k) (body_at other k) h
    hour-too h q s =
        rw terms-same
        (dite (ℕ_discrete (kind_of (body_at file k)) 1)
        (λ e. hour_settled_too i n (body_at file k) (body_at other k) (m.ciso k below e) (terms_by d file k) h q s)
        (λ e. rw (m.rest k below e) s))

    -- every other area has the block that it had
    rest-same : (kind_of (body_at file k) ≡ 1 → ⊥) → block (terms_by d other k) (body_at other k) ≡ block (terms_by d file k) (body_at file k)
    rest-same e = rw (terms-same, m.rest k below e)

    -- in the CISO area every amount is the same, the merged charge is the sum of theirs, and everybody else is charged the same
    ciso-merged : kind_of (body_at file k) ≡ 1 → (h : ℕ) → h < day_hours
        → let terms = terms_by d file k in
        let body = body_at file k in
        hour_block (terms_by d other k) (body_at other k) h
        ≡ amounts_at terms body h ++ merged_at sum i n (charges_at terms body h)
    ciso-merged e h q = rw terms-same (hour_merged i n (body_at file k) (body_at other k) (m.ciso k below e) (terms_by d file k) h q e)

    -- ---- the same, read off the two statements

    module _ (before after : List ℤ) (z : number_of (settle_by d file (length before)) ≡ 0) (y : number_of (settle_by d other (length after)) ≡ 0)
        (h : ℕ) (hour : h < day_hours) where
      abbrev was : List ℤ
      was = statement_left_by d file before

      there : k < areas_of other
      there = omega (arith, below, m.areas)

      rest-shows : (kind_of (body_at file k) ≡ 1 → ⊥) → hour_shown other k h (statement_left_by d other after) ≡ hour_shown file k h was
      rest-shows e = hour_shown_lem d other after y k h there hour ∙ rw (terms-same, m.rest k below e) (sym (hour_shown_lem d file before z k h below hour))

      ciso-shows : kind_of (body_at file k) ≡ 1
          → hour_shown other k h (statement_left_by d other after)
          ≡ take amounts_shown (hour_shown file k h was) ++ merged_at sum i n (charges_shown file k h was)
      unfolding hour_block
      ciso-shows e =
          rw (hour_shown_lem d file before z k h below hour, charges_shown_lem d file before z k h below hour)
          (hour_shown_lem d other after y k h there hour ∙ ciso-merged e h hour)

  -- a file that is settled is settled with its neighbours merged
  settles-too : number_of (check_of other) ≡ 0 → (room : ℕ) → number_of (settle_by d file room) ≡ 0 → number_of (settle_by d other room) ≡ 0
  settles-too checked room z =
      let s = settled_says d room file z in
      settled_accepts d room other
      (record {
        checked = checked;
        roomy = omega (arith, s.roomy, needs-less (areas_of file) (omega arith), ap (needed_to other) m.areas);
        hour = λ k h p q. let below : k < areas_of file = omega (arith, m.areas) in hour-too k below h q (s.hour k h below q);
      })

abbrev pub SettledMerged : (ℕ → List ℕ → ℕ) → Type 0
SettledMerged d =
    (i n : ℕ) (file other : List ℕ) → MergedFile i n file other → number_of (check_of other) ≡ 0 → (room : ℕ) → number_of (settle_by d file room)
    ≡ 0
    → number_of (settle_by d other room) ≡ 0

pub settled_too_by : (d : ℕ → List ℕ → ℕ) → ByNumberAndDays d → SettledMerged d
settled_too_by d by i n file other m checked room z = settles-too d by i n file other m checked room z

-- every other area has the block that it had; in the CISO area every amount is the same, the merged charge is the sum of theirs, and everybody else is
-- charged the same
abbrev pub MergedBlocks : (ℕ → List ℕ → ℕ) → Type 0
MergedBlocks d =
    (i n : ℕ) (file other : List ℕ) → MergedFile i n file other → (k : ℕ) → k < areas_of file
    → let terms = terms_by d file k in
    let body = body_at file k in
    ((kind_of body ≡ 1 → ⊥) → block (terms_by d other k) (body_at other k) ≡ block terms body)
    × (kind_of body ≡ 1 → (h : ℕ) → h < day_hours
    → hour_block (terms_by d other k) (body_at other k) h
    ≡ amounts_at terms body h ++ merged_at sum i n (charges_at terms body h))

pub merged_blocks_by : (d : ℕ → List ℕ → ℕ) → ByNumberAndDays d → MergedBlocks d
merged_blocks_by d by i n file other m k below = (rest-same d by i n file other m k below, ciso-merged d by i n file other m k below)

-- what the two statements show of an hour of area k
abbrev pub MergedShown : (ℕ → List ℕ → ℕ) → Type 0
MergedShown d =
    (i n : ℕ) (file other : List ℕ) → MergedFile i n file other → (k : ℕ) → k < areas_of file
    → (before after : List ℤ) → number_of (settle_by d file (length before)) ≡ 0 → number_of (settle_by d other (length after)) ≡ 0 → (h : ℕ)
    → h < day_hours
    → let was = statement_left_by d file before in
    let is = statement_left_by d other after in
    ((kind_of (body_at file k) ≡ 1 → ⊥) → hour_shown other k h is ≡ hour_shown file k h was)
    × (kind_of (body_at file k) ≡ 1
    → hour_shown other k h is
    ≡ take amounts_shown (hour_shown file k h was) ++ merged_at sum i n (charges_shown file k h was))

pub merged_shown_by : (d : ℕ → List ℕ → ℕ) → ByNumberAndDays d → MergedShown d
merged_shown_by d by i n file other m k below before after z y h hour =
    (rest-shows d by i n file other m k below before after z y h hour, ciso-shows d by i n file other m k below before after z y h hour)

-- the file that `merge` makes is settled where the first is
abbrev pub MergeSettled : (ℕ → List ℕ → ℕ) → Type 0
MergeSettled d =
    (i n number : ℕ) (file : List ℕ) → Below 256 file
    → ((k : ℕ) → k < areas_of file → kind_of (body_at file k) ≡ 1 → Mergeable i n number (body_at file k))
    → (room : ℕ) → number_of (settle_by d file room) ≡ 0 → number_of (settle_by d (merge i n number file) room) ≡ 0

pub merge_settled_by : (d : ℕ → List ℕ → ℕ) → ByNumberAndDays d → MergeSettled d
merge_settled_by d by i n number file bytes mergeable room z =
    let accepted = (settled_says d room file z).checked in
    let merges = merge_merges i n number file accepted bytes mergeable in
    settled_too_by d by i n file (merge i n number file) merges (merge_accepted i n number file accepted bytes mergeable) room z

-- ---- of `settle`

pub settled_too : SettledMerged own_days
settled_too = settled_too_by own_days own_by

pub merged_blocks : MergedBlocks own_days
merged_blocks = merged_blocks_by own_days own_by

pub merged_shown : MergedShown own_days
merged_shown = merged_shown_by own_days own_by

pub merge_settled : MergeSettled own_days
merge_settled = merge_settled_by own_days own_by

-- Demand 3: in every hour of every area of every settled file, the charges add up to on-peak plus off-peak plus downward.
use Prim.Native.Nat.{ℕ, ◌<◌}
use mathlib.Core.List.{List}
use mathlib.Core.Logic.{◌⊎◌, ⊎_elim, dite}
use mathlib.Core.Path.{◌≡◌}
use native.Mathlib.Decide.{ℕ_discrete}
use lib.IntN.{ℤ, pos, ◌+ℤ◌, +ℤ_idr}
use lib.ListN.{length}
use Rattle.exact.specs.Total.{total}
use Rattle.words.specs.Bytes.{words_from}
use Rattle.limits.specs.Ranges.{day_hours}
use Rattle.verdict.specs.Verdict.{number_of}
use Rattle.body.specs.Layout.{kind_of, coordinators_of, demands_at}
use Rattle.contents.specs.File.{areas_of, start_at, body_at}
use Rattle.shares.specs.Shares.{sum}
use Rattle.shares.proofs.AddsUp.{adds_up}
use Rattle.amounts.specs.Amounts.{on_peak_amount, off_peak_amount, downward_amount, amount_at}
use Rattle.statement.specs.Block.{charges_from, charges_at}
use Rattle.statement.proofs.Charges.{charges_one, charges_shared}
use Rattle.settlement.specs.Settlement.{own_days, terms_by, settle_by}
use Rattle.settlement.specs.Shown.{statement_left_by, on_peak_shown, off_peak_shown, downward_shown, charges_shown}
use Rattle.settlement.proofs.Shown.{on_peak_shown_lem, off_peak_shown_lem, downward_shown_lem, charges_shown_lem}
use Rattle.theorems.proofs.Settled.{hour_accepted, charged}

-- charges of either kind add up where there is somebody to charge
either_kind : (kind : ℕ) (amount : ℤ) (body : List ℕ) (from count : ℕ)
    → (kind ≡ 1 → ⊥) ⊎ ((amount ≡ pos 0) ⊎ (0 < total (words_from body from count))) → sum (charges_from kind amount body from count) ≡ amount
unfolding sum
either_kind kind amount body from count some =
    dite (ℕ_discrete kind 1)
    (λ one. rw (charges_shared kind amount body from count one)
    (adds_up amount (words_from body from count) (⊎_elim (λ other. absurd (other one)) (λ s. s) some)))
    (λ other. rw (charges_one kind amount body from count other) (+ℤ_idr amount))

-- ---- under any d

-- over the definitions
abbrev pub HoursAddUp : (ℕ → List ℕ → ℕ) → Type 0
HoursAddUp d =
    (file : List ℕ) (room : ℕ) → number_of (settle_by d file room) ≡ 0 → (k h : ℕ) → k < areas_of file → h < day_hours
    → sum (charges_at (terms_by d file k) (body_at file k) h) ≡ amount_at (terms_by d file k) (body_at file k) h

pub every_hour_adds_up_by : (d : ℕ → List ℕ → ℕ) → HoursAddUp d
every_hour_adds_up_by d file room z k h area hour =
    let body = body_at file k in
    let terms = terms_by d file k in
    either_kind (kind_of body) (amount_at terms body h) body (demands_at body h) (coordinators_of body)
    (charged terms (start_at file k) body h (hour_accepted d file room z k h area hour))

-- and over the numbers of the statement that is left: an hour shows the three amounts of document 01, and charges that add up to them
abbrev pub StatementsAddUp : (ℕ → List ℕ → ℕ) → Type 0
StatementsAddUp d =
    (file : List ℕ) (statement : List ℤ) → number_of (settle_by d file (length statement)) ≡ 0 → (k h : ℕ) → k < areas_of file → h < day_hours
    → let left = statement_left_by d file statement in
    (on_peak_shown file k h left ≡ on_peak_amount (terms_by d file k) (body_at file k) h)
    × (off_peak_shown file k h left ≡ off_peak_amount (terms_by d file k) (body_at file k) h)
    × (downward_shown file k h left ≡ downward_amount (terms_by d file k) (body_at file k) h)
    × (sum (charges_shown file k h left) ≡ on_peak_shown file k h left +ℤ off_peak_shown file k h left +ℤ downward_shown file k h left)

pub statement_adds_up_by : (d : ℕ → List ℕ → ℕ) → StatementsAddUp d
unfolding amount_at
statement_adds_up_by d file statement z k h area hour =
    let on = on_peak_shown_lem d file statement z k h area hour in
    let off = off_peak_shown_lem d file statement z k h area hour in
    let down = downward_shown_lem d file statement z k h area hour in
    (on, off, down, rw (on, off, down, charges_shown_lem d file statement z k h area hour) (every_hour_adds_up_by d file (length statement) z k h area hour))

-- ---- of `settle`

pub every_hour_adds_up : HoursAddUp own_days
every_hour_adds_up = every_hour_adds_up_by own_days

pub statement_adds_up : StatementsAddUp own_days
statement_adds_up = statement_adds_up_by own_days

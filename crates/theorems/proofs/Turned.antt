-- The shares of the negated amount are the negated shares. For the core this is `turned` of shares/proofs/Turned.antt; here it is said of the charges of an
-- hour, of either kind, and of the numbers of two statements.
use Prim.Native.Nat.{ℕ, ◌<◌}
use mathlib.Core.List.{List, map}
use mathlib.Core.Logic.{dite}
use mathlib.Core.Path.{◌≡◌, sym, ◌∙◌}
use native.Mathlib.Decide.{ℕ_discrete}
use lib.IntN.{ℤ, neg_ℤ}
use lib.ListN.{length}
use Rattle.words.specs.Bytes.{words_from}
use Rattle.limits.specs.Ranges.{day_hours}
use Rattle.verdict.specs.Verdict.{number_of}
use Rattle.body.specs.Layout.{kind_of, coordinators_of, demands_at}
use Rattle.contents.specs.File.{areas_of, body_at}
use Rattle.shares.proofs.Turned.{turned}
use Rattle.surcharge.specs.declared.Terms.{Terms}
use Rattle.amounts.specs.Amounts.{amount_at}
use Rattle.statement.specs.Block.{charges_from, charges_at}
use Rattle.statement.proofs.Charges.{charges_one, charges_shared}
use Rattle.settlement.specs.Settlement.{own_days, terms_by, settle_by}
use Rattle.settlement.specs.Shown.{statement_left_by, charges_shown}
use Rattle.settlement.proofs.Shown.{charges_shown_lem}
use Rattle.theorems.specs.Demand.{SharedAlike}
use Rattle.theorems.proofs.Demands.{charges_same}

-- charges of either kind
pub turned_charges : (kind : ℕ) (amount : ℤ) (body : List ℕ) (from count : ℕ)
    → charges_from kind (neg_ℤ amount) body from count ≡ map neg_ℤ (charges_from kind amount body from count)
turned_charges kind amount body from count =
    dite (ℕ_discrete kind 1)
    (λ one. rw (charges_shared kind (neg_ℤ amount) body from count one, charges_shared kind amount body from count one)
    (turned amount (words_from body from count)))
    (λ other. rw (charges_one kind (neg_ℤ amount) body from count other, charges_one kind amount body from count other))

pub turned_hour : (terms : Terms) (body : List ℕ) (h : ℕ) (terms' : Terms) (body' : List ℕ) (h' : ℕ) → SharedAlike body h body' h'
    → amount_at terms' body' h' ≡ neg_ℤ (amount_at terms body h) → charges_at terms' body' h' ≡ map neg_ℤ (charges_at terms body h)
turned_hour terms body h terms' body' h' same negated =
    rw negated
    (sym (charges_same (neg_ℤ (amount_at terms body h)) _ _ body body' _ _ _ _ same.kind same.coordinators same.demand)
    ∙ turned_charges (kind_of body) (amount_at terms body h) body (demands_at body h) (coordinators_of body))

-- an hour of a file that is settled under d and an hour of another, or of the same, that is settled under d'
abbrev pub StatementsTurned : (d d' : ℕ → List ℕ → ℕ) → Type 0
StatementsTurned d d' =
    (file : List ℕ) (statement : List ℤ) → number_of (settle_by d file (length statement)) ≡ 0 → (k h : ℕ) → k < areas_of file → h < day_hours
    → (file' : List ℕ) (statement' : List ℤ) → number_of (settle_by d' file' (length statement')) ≡ 0 → (k' h' : ℕ)
    → k' < areas_of file' → h' < day_hours
    → SharedAlike (body_at file k) h (body_at file' k') h'
    → amount_at (terms_by d' file' k') (body_at file' k') h' ≡ neg_ℤ (amount_at (terms_by d file k) (body_at file k) h)
    → charges_shown file' k' h' (statement_left_by d' file' statement') ≡ map neg_ℤ (charges_shown file k h (statement_left_by d file statement))

pub statement_turned_by : (d d' : ℕ → List ℕ → ℕ) → StatementsTurned d d'
statement_turned_by d d' file statement z k h area hour file' statement' z' k' h' area' hour' same negated =
    rw (charges_shown_lem d file statement z k h area hour, charges_shown_lem d' file' statement' z' k' h' area' hour')
    (turned_hour (terms_by d file k) (body_at file k) h (terms_by d' file' k') (body_at file' k') h' same negated)

-- of `settle`
pub statement_turned : StatementsTurned own_days own_days
statement_turned = statement_turned_by own_days own_days

-- In the CISO area, wherever there is demand, every charge is less than one cent from its exact share: "A charge is less than one cent from its exact share of
-- A, with demand D of total T > 0, when T × charge and A × D differ by less than T."
use Prim.Native.Nat.{ℕ, ◌+◌, ◌<◌}
use mathlib.Core.List.{List}
use mathlib.Core.Path.{◌≡◌}
use lib.IntN.{ℤ, pos, nat_abs}
use lib.ListN.{length, get_or}
use Rattle.exact.specs.Total.{total}
use Rattle.words.specs.Word.{word_at}
use Rattle.words.specs.Bytes.{words_from}
use Rattle.words.proofs.Words.{words_count, words_at}
use Rattle.limits.specs.Ranges.{day_hours}
use Rattle.verdict.specs.Verdict.{number_of}
use Rattle.body.specs.Layout.{kind_of, coordinators_of, demands_at, demands_of}
use Rattle.contents.specs.File.{areas_of, body_at}
use Rattle.shares.specs.Shares.{shares, apart}
use Rattle.shares.proofs.WithinACent.{within_a_cent}
use Rattle.amounts.specs.Amounts.{amount_at}
use Rattle.statement.proofs.Charges.{charges_shared}
use Rattle.settlement.specs.Settlement.{own_days, terms_by, settle_by}
use Rattle.settlement.specs.Shown.{statement_left_by, charge_shown}
use Rattle.settlement.proofs.Shown.{charge_shown_lem}
use Rattle.theorems.specs.Demand.{NearShare}

shared_within_a_cent : (amount : ℤ) (body : List ℕ) (from count i : ℕ) → 0 < total (words_from body from count) → i < count
    → nat_abs (apart (total (words_from body from count)) amount (get_or (shares amount (words_from body from count)) i (pos 0)) (word_at body (from + i)))
    < total (words_from body from count)
shared_within_a_cent amount body from count i some p =
    rw (← words_at body from count i p) (within_a_cent amount (words_from body from count) i some (rw (words_count body from count) p))

-- under any d
abbrev pub ChargesWithinACent : (ℕ → List ℕ → ℕ) → Type 0
ChargesWithinACent d =
    (file : List ℕ) (statement : List ℤ) → number_of (settle_by d file (length statement)) ≡ 0 → (k h i : ℕ) → k < areas_of file → h < day_hours
    → i < coordinators_of (body_at file k) → kind_of (body_at file k) ≡ 1 → 0 < total (demands_of (body_at file k) h)
    → NearShare (body_at file k) h i (amount_at (terms_by d file k) (body_at file k) h) (charge_shown file k h (statement_left_by d file statement) i)

pub every_charge_within_a_cent_by : (d : ℕ → List ℕ → ℕ) → ChargesWithinACent d
every_charge_within_a_cent_by d file statement z k h i area hour p ciso some =
    let body = body_at file k in
    let amount = amount_at (terms_by d file k) body h in
    rw (charge_shown_lem d file statement z k h area hour i p, charges_shared (kind_of body) amount body (demands_at body h) (coordinators_of body) ciso)
    (shared_within_a_cent amount body (demands_at body h) (coordinators_of body) i some p)

-- of `settle`
pub every_charge_within_a_cent : ChargesWithinACent own_days
every_charge_within_a_cent = every_charge_within_a_cent_by own_days

-- What a statement shows, read off its numbers by their positions: areas in file order, each 24 hours of on-peak amount, off-peak amount, downward amount, S,
-- the credit and K charges.
use Rattle.std.specs.Prelude.{ℕ, ◌+◌, ◌*◌, List, ℤ, pos, length, get_or, take, drop}
use Rattle.body.specs.Layout.{coordinators_of}
use Rattle.contents.specs.File.{body_at}
use Rattle.statement.specs.Block.{amounts_shown, hour_numbers}
use Rattle.settlement.specs.Settlement.{needed_to, settle_by, after_by}

-- the statement that settlement under d leaves of the one that was lent
abbrev pub statement_left_by : (ℕ → List ℕ → ℕ) → List ℕ → List ℤ → List ℤ
statement_left_by d file statement = after_by d (settle_by d file (length statement)) file statement

module _ (file : List ℕ) (k h : ℕ) where
  -- the first number of hour h of area k: behind the numbers of the areas before it, and of h hours
  unfoldable pub place_of_hour : ℕ
  place_of_hour = needed_to file k + h * hour_numbers (coordinators_of (body_at file k))

  module _ (statement : List ℤ) where
    -- the numbers of the hour
    abbrev pub hour_shown : List ℤ
    hour_shown = take (hour_numbers (coordinators_of (body_at file k))) (drop place_of_hour statement)

    abbrev pub on_peak_shown : ℤ
    on_peak_shown = get_or statement place_of_hour (pos 0)

    abbrev pub off_peak_shown : ℤ
    off_peak_shown = get_or statement (place_of_hour + 1) (pos 0)

    abbrev pub downward_shown : ℤ
    downward_shown = get_or statement (place_of_hour + 2) (pos 0)

    abbrev pub surcharge_shown : ℤ
    surcharge_shown = get_or statement (place_of_hour + 3) (pos 0)

    abbrev pub credit_shown : ℤ
    credit_shown = get_or statement (place_of_hour + 4) (pos 0)

    -- the charge of coordinator i, from 0
    abbrev pub charge_shown : ℕ → ℤ
    charge_shown i = get_or statement (place_of_hour + amounts_shown + i) (pos 0)

    -- the charges of the K coordinators
    abbrev pub charges_shown : List ℤ
    charges_shown = take (coordinators_of (body_at file k)) (drop (place_of_hour + amounts_shown) statement)

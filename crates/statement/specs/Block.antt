-- The statement of one area (docs/RULES.md, section 9): 24 hours of on-peak amount, off-peak amount, downward amount, S, the credit, and a charge for each
-- coordinator.
-- A function of the terms that its day is settled under and its body alone.
use Rattle.std.specs.Prelude.{ℕ, zero, suc, ◌+◌, ◌*◌, cond, List, [], ◌∷◌, ◌++◌, eqb, ℤ}
use Rattle.words.specs.Bytes.{words_from}
use Rattle.limits.specs.Ranges.{day_hours}
use Rattle.body.specs.Layout.{kind_of, coordinators_of, demands_at}
use Rattle.shares.specs.Shares.{shares}
use Rattle.surcharge.specs.declared.Terms.{Terms}
use Rattle.amounts.specs.declared.Amounts.{Amounts}
use Rattle.amounts.specs.Amounts.{amount_at, amounts_of}

-- how many numbers an hour has before its charges
abbrev pub amounts_shown : ℕ
amounts_shown = 5

-- their order: the three amounts; "After the downward amount each hour gets S and the credit"
abbrev pub shown_of : Amounts → List ℤ
shown_of amounts = amounts.on.0 ∷ amounts.off.0 ∷ amounts.down.0 ∷ amounts.surcharge.0 ∷ amounts.credit.0 ∷ []

-- "The hour becomes 5 + K numbers"
abbrev pub hour_numbers : ℕ → ℕ
hour_numbers coordinators = amounts_shown + coordinators

abbrev pub area_numbers : ℕ → ℕ
area_numbers coordinators = day_hours * hour_numbers coordinators

-- "Kind 0: the one coordinator is charged A. Kind 1: .." its share by running demands
unfoldable pub charges_from : (kind : ℕ) (amount : ℤ) (body : List ℕ) (from count : ℕ) → List ℤ
charges_from kind amount body from count = cond (eqb kind 1) (shares amount (words_from body from count)) (amount ∷ [])

module _ (terms : Terms) (body : List ℕ) where
  abbrev pub charges_at : ℕ → List ℤ
  charges_at h = charges_from (kind_of body) (amount_at terms body h) body (demands_at body h) (coordinators_of body)

  abbrev pub amounts_at : ℕ → List ℤ
  amounts_at h = shown_of (amounts_of terms body h)

  unfoldable pub hour_block : ℕ → List ℤ
  hour_block h = amounts_at h ++ charges_at h

  -- the first n hours
  unfoldable pub hours_block : ℕ → List ℤ
  hours_block zero = []
  hours_block (suc n) = hours_block n ++ hour_block n

  abbrev pub block : List ℤ
  block = hours_block day_hours

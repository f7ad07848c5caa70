-- The amounts (docs/RULES.md, sections 3 to 6) over plain numbers, a definition for each sentence; `terms` is what the area's day is settled under.
-- Quantities are thousandths of a MWh, hub prices cents, market prices hundredths of a cent; each amount is rounded once, over one denominator.
use Rattle.std.specs.Prelude.{ℕ, ◌+◌, ◌*◌, ◌/◌, ◌%◌, ◌^◌, Bool, cond, not, ◌&&◌, ◌||◌, eqb, leb, ℤ, pos, ◌-ℤ◌, ◌*ℤ◌}
use Rattle.std.specs.Int.Signed.{lt_z}
use Rattle.exact.specs.Round.{round_div}
use Rattle.exact.specs.Floor.{at_least_zero, at_most_zero}
use Rattle.surcharge.specs.declared.Day.{Day}
use Rattle.surcharge.specs.declared.Terms.{Terms}

-- "bits 6 to 21, hours ending 7 to 22"; h from 0 is the hour ending h + 1
abbrev pub peak_hour : Terms → ℕ → Bool
peak_hour terms h = not (eqb terms.peak 0) && leb 6 h && leb h 21

-- bit h of a word; the peak hours are the bits of the peak word (`peak_hour_bits`, proofs/PeakHours.antt)
abbrev pub bit_set : ℕ → ℕ → Bool
bit_set word h = eqb (word / 2 ^ h % 2) 1

-- "U <= 10 MW" is tier 1 in any case
abbrev pub tier_floor : ℕ
tier_floor = 10000

-- "W > 10 MW" has a downward amount
abbrev pub downward_floor : ℕ
downward_floor = 10000

-- "0 if U = 0; 1 if U > 0 and (U <= 10 MW or 100U <= Q); otherwise 2 if 2U <= Q, 3 if 2U > Q"
abbrev pub tier_of : ℕ → ℕ → ℕ
tier_of upward requirement =
    cond (eqb upward 0) 0
    (cond (leb upward tier_floor || leb (100 * upward) requirement) 1
    (cond (leb (2 * upward) requirement) 2 3))

-- "m 1.25 for day tier 2 and 2 for day tier 3", in quarters
abbrev pub quarters : ℕ → ℕ
quarters tier = cond (eqb tier 2) 5 8

-- "m × (1 + d/100)", in four-hundredths: "the day scaling multiplies m, as the formula has it"
abbrev pub scaled_multiplier : Terms → ℕ → ℕ
scaled_multiplier terms tier = quarters tier * (100 + terms.days)

-- P, "the greater hub price"
abbrev pub greater_price : ℤ → ℤ → ℤ
greater_price a b = cond (lt_z a b) b a

-- "S = max(0, M × P × m × (1 + d/100))", over 400,000
unfoldable pub surcharge_of : (terms : Terms) (most : ℕ) (hub : ℤ) (day_tier : ℕ) → ℤ
surcharge_of terms most hub day_tier = at_least_zero ((pos most *ℤ hub) *ℤ pos (scaled_multiplier terms day_tier))

-- "In a peak hour of tier 0 the credit is M × its load-weighted price (rules 6.4, 6.5); elsewhere 0", over 400,000
unfoldable pub credit_of : (most tier : ℕ) (price : ℤ) → ℤ
credit_of most tier price = cond (eqb tier 0) ((pos most *ℤ price) *ℤ pos 4) (pos 0)

-- "0 if day tier <= 1. Otherwise .. R(max(0, S - credit))"; `s` is S
unfoldable pub on_peak_of : (s : ℤ) (most day_tier tier : ℕ) (price : ℤ) → ℤ
on_peak_of s most day_tier tier price = cond (leb day_tier 1) (pos 0) (round_div (at_least_zero (s -ℤ credit_of most tier price)) 400000)

-- "S and the credit, each rounded by R on its own; both are 0 .. on a day of tier 0 or 1"; the credit is not cut to S
unfoldable pub surcharge_in_cents : (s : ℤ) (day_tier : ℕ) → ℤ
surcharge_in_cents s day_tier = cond (leb day_tier 1) (pos 0) (round_div s 400000)

unfoldable pub credit_in_cents : (most day_tier tier : ℕ) (price : ℤ) → ℤ
credit_in_cents most day_tier tier price = cond (leb day_tier 1) (pos 0) (round_div (credit_of most tier price) 400000)

-- "tier 0 and 1 give 0"; otherwise "R(max(0, U × price × m × (1 + d/100))), rounded once", "with the hour's own tier"
unfoldable pub off_peak_of : (terms : Terms) (upward tier : ℕ) (price : ℤ) → ℤ
off_peak_of terms upward tier price = cond (leb tier 1) (pos 0) (round_div (at_least_zero ((pos upward *ℤ price) *ℤ pos (scaled_multiplier terms tier))) 40000000)

-- "If W > 10 MW, R(min(0, W × MEC)), otherwise 0"; the terms do not enter into it
unfoldable pub downward_of : (terms : Terms) (downward : ℕ) (mec : ℤ) → ℤ
downward_of terms downward mec = cond (leb downward downward_floor) (pos 0) (round_div (at_most_zero (pos downward *ℤ mec)) 100000)

-- "needed in an off-peak hour of tier 2 or 3 and in a tier 0 peak hour of a day of tier 2 or 3, flag 1 only"
abbrev pub needs_price : (flag : ℕ) → Bool → (day_tier tier : ℕ) → Bool
needs_price flag peak day_tier tier = eqb flag 1 && cond peak (leb 2 day_tier && eqb tier 0) (leb 2 tier)

-- the facts of a day as the struct of the code
unfoldable pub day_of : (terms : Terms) (day_tier most : ℕ) (hub : ℤ) → Day
day_of terms day_tier most hub =
    record {
      tier = day_tier;
      most = record { 0 = most };
      surcharge = record { 0 = surcharge_of terms most hub day_tier };
      shown = record { 0 = surcharge_in_cents (surcharge_of terms most hub day_tier) day_tier };
    }

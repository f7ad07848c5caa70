-- The figures T1 to T12 of document 01, "Figures to hold", as one table, the amount of its Case P, the figure of document 02, §2, and what T6 and T7 show by
-- its §4. Each is over the very definitions that the contracts cite.
-- Quantities are thousandths of a MW or MWh, hub prices and amounts cents, market prices (of an interval, of an hour, MEC) hundredths of a cent. The comment
-- above a figure has the document's words, in MW, MWh, $ a MWh and $.
use Rattle.std.specs.Prelude.{ℕ, List, [], ◌∷◌, ◌++◌, ◌≡◌, Ok, ℤ, pos, neg_ℤ, replicate}
use Rattle.exact.specs.Total.{total}
use Rattle.limits.specs.Ranges.{peak_word, missing_price}
use Rattle.price.specs.Price.{empty_average, answer_of, load_weighted}
use Rattle.price.specs.Intervals.{average_over, first_intervals}
use Rattle.shares.specs.Shares.{sum, shares, merged_at}
use Rattle.surcharge.specs.declared.Terms.{Terms}
use Rattle.surcharge.specs.Surcharge.{tier_of, greater_price, surcharge_of, on_peak_of, surcharge_in_cents, credit_in_cents, off_peak_of, downward_of}

-- "M 120, hubs 80.00 and 95.50, d 3, day tier 2": S, the on-peak amount of an hour, by its tier and price, and the S and the credit that it shows
abbrev pub exact_surcharge : ℤ
exact_surcharge = surcharge_of (record { peak = peak_word; days = 3 }) 120000 (greater_price (pos 8000) (pos 9550)) 2

abbrev pub on_peak : ℕ → ℤ → ℤ
on_peak tier price = on_peak_of exact_surcharge 120000 2 tier price

abbrev pub surcharge : ℤ
surcharge = surcharge_in_cents exact_surcharge 2

abbrev pub credit : ℕ → ℤ → ℤ
credit tier price = credit_in_cents 120000 2 tier price

-- "U 40 MW, Q 60 and price 25": the off-peak amount of an hour, by d
abbrev pub off_peak : ℕ → ℤ
off_peak days = off_peak_of (record { peak = peak_word; days = days }) 40000 (tier_of 40000 60000) (pos 250000)

-- "100 MWh at 30 and 300 at 50, ten missing", and those ten of 100 MWh each: "Filling a missing price with 0" would give less than 13
abbrev pub intervals : List (ℕ × ℕ)
intervals = (100000, 300000) ∷ (300000, 500000) ∷ replicate 10 (100000, missing_price)

-- an interval of 100 MWh whose price is missing, and the whole hour, as bytes of the file
abbrev pub missing_pair : List ℕ
missing_pair = 160 ∷ 134 ∷ 1 ∷ 0 ∷ 0 ∷ 0 ∷ 0 ∷ 128 ∷ []

abbrev pub five_missing : List ℕ
five_missing = missing_pair ++ missing_pair ++ missing_pair ++ missing_pair ++ missing_pair

abbrev pub hour_bytes : List ℕ
hour_bytes =
    (160 ∷ 134 ∷ 1 ∷ 0 ∷ 224 ∷ 147 ∷ 4 ∷ 0 ∷ []) ++ (224 ∷ 147 ∷ 4 ∷ 0 ∷ 32 ∷ 161 ∷ 7 ∷ 0 ∷ []) ++ five_missing ++ five_missing

pub record Figures : Type 0 where
  -- Q 600 MW: U 10.000 tier 1, 10.001 tier 2
  pub T1 : (tier_of 10000 600000 ≡ 1) × (tier_of 10001 600000 ≡ 2)
  -- Q 600: 300.000 tier 2, 300.001 tier 3
  pub T2 : (tier_of 300000 600000 ≡ 2) × (tier_of 300001 600000 ≡ 3)
  -- Q 2,000: 20.000 tier 1, 20.001 tier 2
  pub T3 : (tier_of 20000 2000000 ≡ 1) × (tier_of 20001 2000000 ≡ 2)
  -- Q 10: 8.000 tier 1, 10.001 tier 3
  pub T4 : (tier_of 8000 10000 ≡ 1) × (tier_of 10001 10000 ≡ 3)
  -- Q 1,000.050: 10.000 tier 1, 10.001 tier 2
  pub T5 : (tier_of 10000 1000050 ≡ 1) × (tier_of 10001 1000050 ≡ 2)
  -- $14,754.75 in a failed hour, also one of tier 1; the hour's price is not asked
  pub T6 : (price : ℤ) → (on_peak 2 price ≡ pos 1475475) × (on_peak 1 price ≡ pos 1475475)
  -- passed hour at 60: $7,554.75; at 130: 0; at -5: $15,354.75
  pub T7 : (on_peak 0 (pos 600000) ≡ pos 755475) × (on_peak 0 (pos 1300000) ≡ pos 0) × (on_peak 0 (neg_ℤ (pos 50000)) ≡ pos 1535475)
  -- "S shows 1,475,475 cents" in all of them; no credit in a failed hour, and in passed ones $7,200.00, $15,600.00, which is not cut to S, and -$600.00
  pub T6_T7_shown : (surcharge ≡ pos 1475475) × ((price : ℤ) → (credit 2 price ≡ pos 0) × (credit 1 price ≡ pos 0))
      × (credit 0 (pos 600000) ≡ pos 720000)
      × (credit 0 (pos 1300000) ≡ pos 1560000)
      × (credit 0 (neg_ℤ (pos 50000)) ≡ neg_ℤ (pos 60000))
  -- W 10.000: 0, at any MEC; 10.001 at MEC -100: -$1,000.10; d is not asked
  pub T8 : (terms : Terms) → ((mec : ℤ) → downward_of terms 10000 mec ≡ pos 0) × (downward_of terms 10001 (neg_ℤ (pos 1000000)) ≡ neg_ℤ (pos 100010))
  -- W 12.500 at -0.01: -$0.13; at +40: 0; d is not asked
  pub T9 : (terms : Terms) → (downward_of terms 12500 (neg_ℤ (pos 100)) ≡ neg_ℤ (pos 13)) × (downward_of terms 12500 (pos 400000) ≡ pos 0)
  -- 100 MWh at 30 and 300 at 50, ten missing: 45.0000, "with count 2"
  pub T10 : answer_of (average_over empty_average intervals) ≡ Ok (record { price = record { 0 = pos 450000 }; count = 2 })
  -- the same by the price call, over the 96 bytes of that hour
  pub T10_bytes : (first_intervals hour_bytes 12 ≡ intervals) × (load_weighted hour_bytes ≡ Ok (record { price = record { 0 = pos 450000 }; count = 2 }))
  -- 100 cents over 1, 1, 1: 33, 34, 33
  pub T11 : shares (pos 100) (1 ∷ 1 ∷ 1 ∷ []) ≡ pos 33 ∷ pos 34 ∷ pos 33 ∷ []
  -- the first two merged: 67, 33; merged as demands, which are then 2 and 1, and as charges
  pub T11_merged : (shares (pos 100) (merged_at total 0 2 (1 ∷ 1 ∷ 1 ∷ [])) ≡ pos 67 ∷ pos 33 ∷ [])
      × (shares (pos 100) (2 ∷ 1 ∷ []) ≡ pos 67 ∷ pos 33 ∷ [])
      × (merged_at sum 0 2 (shares (pos 100) (1 ∷ 1 ∷ 1 ∷ [])) ≡ pos 67 ∷ pos 33 ∷ [])
  -- -100 cents: -33, -34, -33
  pub T11_negated : shares (neg_ℤ (pos 100)) (1 ∷ 1 ∷ 1 ∷ []) ≡ neg_ℤ (pos 33) ∷ neg_ℤ (pos 34) ∷ neg_ℤ (pos 33) ∷ []
  -- 1 cent over 1, 0, 1: 1, 0, 0
  pub T12 : shares (pos 1) (1 ∷ 0 ∷ 1 ∷ []) ≡ pos 1 ∷ pos 0 ∷ pos 0 ∷ []
  -- Case P's numbers, an off-peak hour: U 40 with Q 60 MW is tier 3, and at 25, with d 0, its amount $2,000.00
  pub case_P : (tier_of 40000 60000 ≡ 3) × (off_peak 0 ≡ pos 200000)
  -- "With d 5, U 40 MW, Q 60 and price 25 the amount is $2,100.00"
  pub off_peak_scaled : off_peak 5 ≡ pos 210000

-- The ranges of docs/RULES.md, section 2: a name for each number, cited wherever it is meant. src/lib.rt has the same names for the code.
use Rattle.std.specs.Prelude.{ℕ, ◌+◌, ◌*◌}

-- "then 24 hours"
abbrev pub day_hours : ℕ
day_hours = 24

-- the payments of an area: for each hour an upward and a downward one
abbrev pub day_payments : ℕ
day_payments = 2 * day_hours

-- "upward deficiencies ..; downward deficiencies .. (each 0 to 2,500,000)"
abbrev pub most_deficiency : ℕ
most_deficiency = 2500000

-- "upward imbalance reserve requirement Q (0 to 50,000,000)"
abbrev pub most_requirement : ℕ
most_requirement = 50000000

-- "MEC (-20,000,000 to 20,000,000)", and a price has the range of MEC
abbrev pub most_market_price : ℕ
most_market_price = 20000000

-- "interval quantity (0 to 10,000,000)"
abbrev pub most_quantity : ℕ
most_quantity = 10000000

-- "fewer than 9L present of its 12L" are too few: so many are asked for each load point
abbrev pub least_present : ℕ
least_present = 9

-- "metered demands (0 to 100,000,000, together at most 100,000,000)"
abbrev pub most_demand : ℕ
most_demand = 100000000

-- "hub price A, hub price B (each -200,000 to 200,000)"
abbrev pub most_hub_price : ℕ
most_hub_price = 200000

-- "persistent days d 0 to 30"
abbrev pub most_days : ℕ
most_days = 30

-- "the preceding thirty calendar days"
abbrev pub recorded_days : ℕ
recorded_days = 30

-- "a basis for each area and hour .., 0 to 10,000,000, summing to at most that per hour"
abbrev pub most_basis : ℕ
most_basis = 10000000

-- "1 to 2,147,483,647", of area numbers and of coordinator numbers
abbrev pub largest_number : ℕ
largest_number = 2147483647

-- "coordinators K (1 to 64 ..)"
abbrev pub most_coordinators : ℕ
most_coordinators = 64

-- "A body has 800 .. words" at least
abbrev pub least_body_words : ℕ
least_body_words = 800

-- "amount to be shared beyond +-10,000,000,000 cents"
abbrev pub most_amount : ℕ
most_amount = 10000000000

-- ---- words that are no number

-- "4,194,240 (bits 6 to 21, hours ending 7 to 22)"
abbrev pub peak_word : ℕ
peak_word = 4194240

-- "-2,147,483,648: missing", as a word
abbrev pub missing_price : ℕ
missing_price = 2147483648

-- ---- what follows from the ranges

-- U of an hour: four deficiencies
abbrev pub most_upward : ℕ
most_upward = 4 * most_deficiency

-- W of an hour: two deficiencies
abbrev pub most_downward : ℕ
most_downward = 2 * most_deficiency

-- ---- the limits of the proofs: no edition goes past them

abbrev pub proved_areas : ℕ
proved_areas = 32

abbrev pub proved_points : ℕ
proved_points = 32

-- the intervals of an hour with as many load points
abbrev pub proved_intervals : ℕ
proved_intervals = 12 * proved_points

-- the words of a body with as many load points and the most coordinators
abbrev pub proved_words : ℕ
proved_words = 7 + most_coordinators + day_hours * (8 + 24 * proved_points + most_coordinators)

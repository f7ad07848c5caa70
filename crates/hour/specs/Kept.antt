-- The range of each number of an hour, as what may be relied on where its rule is kept. Whoever speaks of a range cites it from here.
use Rattle.std.specs.Prelude.{◌≡◌, ℕ, ◌+◌, ◌≤◌, false, unsigned_abs}
use Rattle.words.specs.Word.{signed_of}
use Rattle.limits.specs.Ranges.{most_deficiency, most_requirement, most_market_price, most_quantity, most_demand}
use Rattle.hour.specs.Layout.{missing}

abbrev pub DeficiencyKept : ℕ → Type 0
DeficiencyKept deficiency = deficiency ≤ most_deficiency

abbrev pub RequirementKept : ℕ → Type 0
RequirementKept requirement = requirement ≤ most_requirement

-- MEC, as it stands in the file
abbrev pub MecKept : ℕ → Type 0
MecKept mec = unsigned_abs (signed_of mec) ≤ most_market_price

abbrev pub QuantityKept : ℕ → Type 0
QuantityKept quantity = quantity ≤ most_quantity

-- "A price has the range of MEC, or is -2,147,483,648: missing"
abbrev pub PriceKept : ℕ → Type 0
PriceKept price = missing price ≡ false → unsigned_abs (signed_of price) ≤ most_market_price

-- a demand behind running demand `before`
abbrev pub DemandKept : ℕ → ℕ → Type 0
DemandKept before demand = (demand ≤ most_demand) × (before + demand ≤ most_demand)

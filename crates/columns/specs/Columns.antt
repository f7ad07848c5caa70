-- An amount shared over two columns, equally long: the coordinators and the demands of the sharing call's rows (docs/RULES.md, section 11). What is refused of
-- them, and the charges afterwards.
use Rattle.std.specs.Prelude.{ℕ, cond, ◌||◌, List, ◌∷◌, ◌++◌, ◌≡◌, eqb, leb, ltb, ℤ, nat_abs, length, get_or, take, drop}
use Rattle.verdict.specs.declared.Refusal.TheVariants.{AmountWithoutDemand, RoomTooShort, AmountBeyondRange}
use Rattle.verdict.specs.Verdict.{number_of, Accepted, Verdict}
use Rattle.verdict.specs.First.{rule◌else◌then◌, ◌or_else◌, scan}
use Rattle.exact.specs.Total.{total}
use Rattle.limits.specs.Ranges.{most_amount}
use Rattle.hour.specs.Check.{demand_rule}
use Rattle.body.specs.Check.{coordinator_rule}
use Rattle.shares.specs.Shares.{shares}

-- ---- "rows in order (8, 9, 10, place the row from 0)"

-- a row behind coordinator `before` and running demand `running`
abbrev pub row_rule : (place before running coordinator demand : ℕ) → Verdict
row_rule place before running coordinator demand = coordinator_rule place before coordinator or_else demand_rule place running demand

-- the coordinator before row i; 0 before the first
abbrev pub coordinator_above : List ℕ → ℕ → ℕ
coordinator_above coordinators i = get_or (0 ∷ coordinators) i 0

unfoldable pub row_rule_at : List ℕ → List ℕ → ℕ → Verdict
row_rule_at coordinators demands i = row_rule i (coordinator_above coordinators i) (total (take i demands)) (get_or coordinators i 0) (get_or demands i 0)

unfoldable pub rows_rule : List ℕ → List ℕ → Verdict
rows_rule coordinators demands = scan (row_rule_at coordinators demands) 0 (length demands)

-- ---- all that is refused of the columns

-- "13 for fewer charges than rows, 12 (place 0; A not 0 and T = 0)", with t the total
abbrev pub charges_rule : (amount : ℤ) (t count room : ℕ) → Verdict
charges_rule amount t count room =
    rule leb count room else RoomTooShort count then
    rule eqb (nat_abs amount) 0 || ltb 0 t else AmountWithoutDemand 0 then
    Accepted

-- "15, rows in order", and then those
unfoldable pub columns_rule : (amount : ℤ) (coordinators demands : List ℕ) (room : ℕ) → Verdict
columns_rule amount coordinators demands room =
    rule leb (nat_abs amount) most_amount else AmountBeyondRange then
    rows_rule coordinators demands or_else charges_rule amount (total demands) (length demands) room

-- "charges past the rows stay"; a refusal writes nothing
abbrev pub charges_after : Verdict → ℤ → List ℕ → List ℤ → List ℤ
charges_after verdict amount demands charges =
    cond (eqb (number_of verdict) 0) (shares amount demands ++ drop (length demands) charges) charges

-- ---- what is promised: the answer, and the charges afterwards

abbrev pub SharedColumns : ℤ → (coordinators demands : List ℕ) → List ℤ → Verdict → List ℤ → Type 0
SharedColumns amount coordinators demands charges answer after =
    (answer ≡ columns_rule amount coordinators demands (length charges)) × (after ≡ charges_after answer amount demands charges)

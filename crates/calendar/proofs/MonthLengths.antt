-- That a month's last day by formula is the one that the list of twelve lengths gave, and that the date check answers every number as it did with
-- that list. The lengths stand here alone.
use Prim.Native.Nat.{ℕ, zero, suc, ◌+◌, ◌-◌, ◌/◌, ◌%◌, ◌<◌, ◌≤◌}
use mathlib.Core.Path.{◌≡◌, refl, ap}
use mathlib.Core.Bool.{Bool, cond, ◌&&◌}
use mathlib.Core.List.{List, [], ◌∷◌, map}
use mathlib.Core.Logic.{dite}
use native.Mathlib.Decide.{ℕ_discrete}
use native.Mathlib.Omega.{arith}
use Rattle.std.proofs.lemmas.Bool.Decides.{nat_tests}
use lib.Dec.{eqb, leb}
use lib.ListN.{get_or, drop}
use Rattle.calendar.specs.Date.{leap_year, days_in, real_date}

-- ---- the twelve lengths

-- n numbers in a row
abbrev pub numbers : (first n : ℕ) → List ℕ
numbers first zero = []
numbers first (suc n) = first ∷ numbers (suc first) n

abbrev pub lengths : (february : ℕ) → List ℕ
lengths february = 31 ∷ february ∷ 31 ∷ 30 ∷ 31 ∷ 30 ∷ 31 ∷ 31 ∷ 30 ∷ 31 ∷ 30 ∷ 31 ∷ []

-- in every year the formula gives the months 1 to 12 these lengths
pub twelve_lengths : (year : ℕ) → map (days_in year) (numbers 1 12) ≡ lengths (cond (leap_year year) 29 28)
unfolding days_in
twelve_lengths year = refl

-- ---- the date check as it was, by the list

abbrev pub days_listed : ℕ → ℕ → ℕ
days_listed year month = cond (eqb month 2) (cond (leap_year year) 29 28) (get_or (lengths 28) (month - 1) 0)

abbrev pub real_listed : ℕ → Bool
real_listed date =
    leb 2000 (date / 10000) && leb (date / 10000) 2099
    && leb 1 (date / 100 % 100) && leb (date / 100 % 100) 12
    && leb 1 (date % 100) && leb (date % 100) (days_listed (date / 10000) (date / 100 % 100))

-- two rules that give one list for some numbers in a row give each of them the same
alike : (f g : ℕ → ℕ) (first n : ℕ) → map f (numbers first n) ≡ map g (numbers first n) → (i : ℕ) → first ≤ i → i < first + n → f i ≡ g i
alike f g first zero same i from to = absurd (omega arith)
alike f g first (suc n) same i from to =
    dite (ℕ_discrete i first)
    (λ e. rw e (ap (λ l. get_or l 0 0) same))
    (λ e. alike f g (suc first) n (ap (drop 1) same) i (omega (arith, e)) (omega arith))

same_length : (year month : ℕ) → 1 ≤ month → month ≤ 12 → days_in year month ≡ days_listed year month
same_length year month from to = alike (days_in year) (days_listed year) 1 12 (twelve_lengths year) month from (omega arith)

-- every number is a real date exactly where it was one by the list
pub same_dates : (date : ℕ) → real_date date ≡ real_listed date
unfolding real_date
same_dates date =
    grind (arith, nat_tests, same_length (date / 10000) (date / 100 % 100))

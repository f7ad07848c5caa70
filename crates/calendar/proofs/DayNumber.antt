-- The laws of the number of a day, and its value by formula.
use Prim.Native.Nat.{ℕ, zero, suc, ◌+◌, ◌*◌, ◌-◌, ◌/◌, ◌%◌, ◌<◌, ◌≤◌, min}
use mathlib.Core.Path.{◌≡◌, refl, ap, ◌∙◌}
use mathlib.Core.Bool.{Bool, true, false, cond, ◌&&◌}
use mathlib.Core.Logic.{dite}
use native.Mathlib.Decide.{dec_lt}
use native.Mathlib.Omega.{arith}
use native.Mathlib.Nat.{add-zero, le_refl}
use lib.Dec.{leb}
use Rattle.std.proofs.lemmas.Bool.Decides.{nat_tests}
use Rattle.calendar.specs.Date.{leap_year, days_in, real_date}
use Rattle.calendar.specs.DayNumber.{day_number, days_of_months}

-- ---- one date

pub record Real (y m d : ℕ) : Type 0 where
  pub from : 2000 ≤ y
  pub to : y ≤ 2099
  pub first_month : 1 ≤ m
  pub last_month : m ≤ 12
  pub first_day : 1 ≤ d
  pub last_day_lem : d ≤ days_in y m

pub real_parts : (date : ℕ) → real_date date ≡ true → Real (date / 10000) (date / 100 % 100) (date % 100)
unfolding real_date
real_parts date t =
    record {
      from = grind (arith, nat_tests);
      to = grind (arith, nat_tests);
      first_month = grind (arith, nat_tests);
      last_month = grind (arith, nat_tests);
      first_day = grind (arith, nat_tests);
      last_day_lem = grind (arith, nat_tests);
    }

module _ (date : ℕ) where
  low-year : date / 10000 < 2000 → real_date date ≡ false
  unfolding real_date
  low-year h = grind (arith, nat_tests)

  low-month : date / 100 % 100 < 1 → real_date date ≡ false
  unfolding real_date
  low-month h = grind (arith, nat_tests)

  high-month : 12 < date / 100 % 100 → real_date date ≡ false
  unfolding real_date
  high-month h = grind (arith, nat_tests)

-- ---- numbers in a row

step : (date : ℕ) → day_number (date + 1) ≡ day_number date + cond (real_date date) 1 0
unfolding day_number
step date = let e : date + 1 ≡ suc date = omega arith in rw e

-- no real date among n numbers from a on: the number stays
quiet : (a n : ℕ) → ((i : ℕ) → i < n → real_date (a + i) ≡ false) → day_number (a + n) ≡ day_number a
quiet a zero none = rw add-zero
quiet a (suc n) none =
    let e : a + suc n ≡ (a + n) + 1 = omega arith in
    let r : real_date (a + n) ≡ false = none n (omega arith) in
    let k : day_number (a + n) ≡ day_number a = quiet a n (λ i h. none i (omega arith)) in
    rw (e, step (a + n), r, k) (omega arith)

-- ---- a month

pub days_most : (y m : ℕ) → days_in y m ≤ 31
unfolding days_in
days_most y m = grind (arith, nat_tests)

one_more : (d len : ℕ) → min (d - 1) len + cond (leb 1 d && leb d len) 1 0 ≡ min (d + 1 - 1) len
one_more d len = grind (arith, nat_tests)

module _ (y : ℕ) (from : 2000 ≤ y) (to : y ≤ 2099) where
  in-month : (m d : ℕ) → 1 ≤ m → m ≤ 12 → d < 100 → real_date (10000 * y + 100 * m + d) ≡ (leb 1 d && leb d (days_in y m))
  unfolding real_date
  in-month m d h l k = grind (arith, nat_tests)

  days : (m d : ℕ) → 1 ≤ m → m ≤ 12 → d ≤ 100 → day_number (10000 * y + 100 * m + d) ≡ day_number (10000 * y + 100 * m) + min (d - 1) (days_in y m)
  days m zero h l k = rw add-zero (omega arith)
  days m (suc d) h l k =
      let a = 10000 * y + 100 * m in
      let e : a + suc d ≡ (a + d) + 1 = omega arith in
      rw (e, step (a + d), in-month m d h l (omega arith), days m d h l (omega arith)) (omega (arith, one_more d (days_in y m)))

  -- ---- the months of a year

  months : (k : ℕ) → k ≤ 12 → day_number (10000 * y + 100 * (k + 1)) ≡ day_number (10000 * y) + days_of_months y k
  unfolding days_of_months
  months zero l = rw (quiet (10000 * y) 100 (λ i h. low-month (10000 * y + i) (omega arith))) (omega arith)
  months (suc k) l =
      let e : 10000 * y + 100 * (suc k + 1) ≡ 10000 * y + 100 * (k + 1) + 100 = omega arith in
      let s : suc k ≡ k + 1 = omega arith in
      rw (e, s) (omega (arith, days (k + 1) 100 (omega arith) (omega arith) (omega arith), days_most y (k + 1), months k (omega arith)))

  year : day_number (10000 * (y + 1)) ≡ day_number (10000 * y) + days_of_months y 12
  year =
      let e : 10000 * (y + 1) ≡ 10000 * y + 1300 + 8700 = omega arith in
      rw (e, quiet (10000 * y + 1300) 8700 (λ i h. high-month (10000 * y + 1300 + i) (omega arith))) (months 12 (omega arith))

  year-days : days_of_months y 12 ≡ 365 + cond (leap_year y) 1 0
  unfolding days_of_months days_in
  year-days = grind (arith, nat_tests)

  leap-day : cond (leap_year y) 1 0 + (y - 1997) / 4 ≡ (y + 1 - 1997) / 4
  unfolding leap_year
  leap-day = grind (arith, nat_tests)

-- ---- the years

years : (n : ℕ) → n ≤ 100 → day_number (10000 * (2000 + n)) ≡ 365 * n + (n + 3) / 4
unfolding day_number
years zero l = quiet 0 20000000 (λ i h. low-year (0 + i) (omega arith))
years (suc n) l =
    let y = 2000 + n in
    let e : 10000 * (2000 + suc n) ≡ 10000 * (y + 1) = omega arith in
    let from : 2000 ≤ y = omega arith in
    let to : y ≤ 2099 = omega arith in
    rw e (omega (arith, year y from to, year-days y from to, leap-day y from to, years n (omega arith)))

-- ---- the formula

pub formula : (date : ℕ) → real_date date ≡ true
    → day_number date ≡ 365 * (date / 10000 - 2000) + (date / 10000 - 1997) / 4 + days_of_months (date / 10000) (date / 100 % 100 - 1) + date % 100 - 1
formula date t =
    let y = date / 10000 in
    let m = date / 100 % 100 in
    let d = date % 100 in
    let r = real_parts date t in
    let e : date ≡ 10000 * y + 100 * m + d = omega arith in
    let ey : 2000 + (y - 2000) ≡ y = omega (arith, r.from) in
    let em : m - 1 + 1 ≡ m = omega (arith, r.first_month) in
    let a : day_number (10000 * y) ≡ 365 * (y - 2000) + (y - 2000 + 3) / 4 = rw ey at (years (y - 2000) (omega (arith, r.to))) in
    let b : day_number (10000 * y + 100 * m) ≡ day_number (10000 * y) + days_of_months y (m - 1) = rw em at
    (months y r.from r.to (m - 1) (omega (arith, r.last_month))) in
    let n : day_number (10000 * y + 100 * m + d) ≡ day_number (10000 * y + 100 * m) + min (d - 1) (days_in y m) = days y r.from r.to m d
    r.first_month r.last_month (omega arith) in
    ap day_number e ∙ omega (arith, a, b, n, r.first_day, r.last_day_lem, r.from)

-- ---- the laws

pub months_most : (y k : ℕ) → days_of_months y k ≤ 31 * k
unfolding days_of_months
months_most y zero = omega arith
months_most y (suc k) = omega (arith, months_most y k, days_most y (suc k))

pub months_next : (y b : ℕ) → 1 ≤ b → days_of_months y (b + 1 - 1) ≡ days_of_months y (b - 1) + days_in y b
unfolding days_of_months
months_next y b h =
    let e : b + 1 - 1 ≡ suc (b - 1) = omega arith in
    grind (arith, e)

no_fall : (a n : ℕ) → day_number a ≤ day_number (a + n)
no_fall a zero = rw add-zero (le_refl _)
no_fall a (suc n) =
    let e : a + suc n ≡ (a + n) + 1 = omega arith in
    rw (e, step (a + n)) (omega (arith, no_fall a n))

pub not_falling : (a b : ℕ) → a ≤ b → day_number a ≤ day_number b
not_falling a b h = let e : a + (b - a) ≡ b = omega arith in rw e at (no_fall a (b - a))

real_step : (date : ℕ) → real_date date ≡ true → day_number (date + 1) ≡ day_number date + 1
real_step date t = step date ∙ rw t

-- of two dates, the later one has the greater number
pub rising : (a b : ℕ) → real_date a ≡ true → a < b → day_number a < day_number b
rising a b t h =
    let e : a + 1 + (b - (a + 1)) ≡ b = omega arith in
    let k : day_number (a + 1) ≤ day_number b = rw e at (no_fall (a + 1) (b - (a + 1))) in
    omega (arith, real_step a t)

-- the day after, with no real date between, has the next number
pub day_after : (a b : ℕ) → real_date a ≡ true → a < b → ((i : ℕ) → a < i → i < b → real_date i ≡ false) → day_number b ≡ day_number a + 1
day_after a b t h none =
    let e : a + 1 + (b - (a + 1)) ≡ b = omega arith in
    let k : day_number b ≡ day_number (a + 1) = rw e at (quiet (a + 1) (b - (a + 1)) (λ i l. none (a + 1 + i) (omega arith) (omega arith))) in
    k ∙ real_step a t

-- every number below a day's own is the number of a real date before it
pub date_of : (n d : ℕ) → d < day_number n → (date : ℕ) × ((date < n) × (real_date date ≡ true) × (day_number date ≡ d))
unfolding day_number
date_of zero d h = absurd (omega arith)
date_of (suc n) d h =
    dite (dec_lt d (day_number n))
    (λ k. let f = date_of n d k in (f.0, (omega (arith, f.1.0), f.1.1, f.1.2)))
    (λ k. by (real_date n) refl h (omega (arith, k)))
  where
    by : (t : Bool) → real_date n ≡ t → d < day_number n + cond (real_date n) 1 0 → day_number n ≤ d
        → (date : ℕ) × ((date < suc n) × (real_date date ≡ true) × (day_number date ≡ d))
    by true e b k = (n, (omega arith, e, omega (arith, rw e at b)))
    by false e b k = absurd (omega (arith, rw e at b))

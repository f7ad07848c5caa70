-- The laws of marks: what ageing and marking do to each bit, and that the thirty bits say all.
use Prim.Native.Nat.{ℕ, zero, suc, ◌+◌, ◌*◌, ◌-◌, ◌/◌, ◌%◌, ◌^◌, ◌<◌, ◌≤◌}
use mathlib.Core.Path.{◌≡◌, refl, sym, ap, ◌∙◌}
use native.Mathlib.Omega.{arith}
use native.Mathlib.Numerals.{add-one}
use mathlib.Core.Logic.{dite}
use native.Mathlib.Decide.{dec_lt, ℕ_discrete}
use native.Mathlib.Nat.{zero-div, zero-mul, div-eq_of_lt, pow-le-pow_right, pow-zero, pow-suc, div-one}
use native.Mathlib.Nat.{mul-one, mul_assoc, div-div-eq-div-mul, pow-succ', mod-lt, one-le-pow, mod-eq_of_lt}
use lib.Arith.{mod-mul}
use Rattle.limits.specs.Ranges.{recorded_days}
use Rattle.marks.specs.Marks.{bit_at, aged, bits_below}

-- ---- a bit, from the lowest on

pub bit_zero : (x : ℕ) → bit_at x 0 ≡ x % 2
unfolding bit_at
bit_zero x = rw (pow-zero, div-one)

pub bit_suc : (x i : ℕ) → bit_at x (suc i) ≡ bit_at (x / 2) i
unfolding bit_at
bit_suc x i = rw (pow-succ' 2 i, div-div-eq-div-mul x 2 (2 ^ i))

pub bit_most : (x i : ℕ) → bit_at x i ≤ 1
unfolding bit_at
bit_most x i = omega arith

-- ---- doubling

double_zero : (x : ℕ) → bit_at (x * 2) 0 ≡ 0
double_zero x = bit_zero (x * 2) ∙ omega arith

double_suc : (x i : ℕ) → bit_at (x * 2) (suc i) ≡ bit_at x i
double_suc x i = let e : x * 2 / 2 ≡ x = omega arith in rw (bit_suc, e)

power_suc : (x g : ℕ) → x * 2 ^ suc g ≡ x * 2 ^ g * 2
power_suc x g = rw (pow-suc, mul_assoc)

shifted : (x g i : ℕ) → g ≤ i → bit_at (x * 2 ^ g) i ≡ bit_at x (i - g)
shifted x zero i h = let e : i - 0 ≡ i = omega arith in rw (pow-zero, mul-one, e)
shifted x (suc g) zero h = absurd (omega arith)
shifted x (suc g) (suc i) h =
    let e : suc i - suc g ≡ i - g = omega arith in
    rw (power_suc, double_suc, e) (shifted x g i (omega arith))

shifted_in : (x g i : ℕ) → i < g → bit_at (x * 2 ^ g) i ≡ 0
shifted_in x zero i h = absurd (omega arith)
shifted_in x (suc g) zero h = rw power_suc (double_zero _)
shifted_in x (suc g) (suc i) h = rw (power_suc, double_suc) (shifted_in x g i (omega arith))

-- ---- the lowest n bits

lower : (x n : ℕ) → x % 2 ^ suc n / 2 ≡ x / 2 % 2 ^ n
lower x n = rw (pow-suc, mod-mul x {m = 2 ^ n} {c = 2} (one-le-pow n 2 (omega arith)) (omega arith)) (omega arith)

lowest : (x n : ℕ) → x % 2 ^ suc n % 2 ≡ x % 2
lowest x n = rw (pow-suc, mod-mul x {m = 2 ^ n} {c = 2} (one-le-pow n 2 (omega arith)) (omega arith)) (omega arith)

low_bits : (x n i : ℕ) → i < n → bit_at (x % 2 ^ n) i ≡ bit_at x i
low_bits x zero i h = absurd (omega arith)
low_bits x (suc n) zero h = bit_zero (x % 2 ^ suc n) ∙ lowest x n ∙ sym (bit_zero x)
low_bits x (suc n) (suc i) h = bit_suc (x % 2 ^ suc n) i ∙ ap (λ y. bit_at y i) (lower x n) ∙ low_bits (x / 2) n i (omega arith) ∙ sym (bit_suc x i)

-- a number below 2 ^ n is determined by its n lowest bits
pub by_bits : (n x y : ℕ) → x < 2 ^ n → y < 2 ^ n → ((i : ℕ) → i < n → bit_at x i ≡ bit_at y i) → x ≡ y
by_bits zero x y h k same = let a = rw pow-zero at h in let b = rw pow-zero at k in omega arith
by_bits (suc n) x y h k same =
    let a : x < 2 ^ n * 2 = rw pow-suc at h in
    let b : y < 2 ^ n * 2 = rw pow-suc at k in
    let e : x / 2 ≡ y / 2 = by_bits n (x / 2) (y / 2) (omega arith) (omega arith)
    (λ i l. sym (bit_suc x i) ∙ same (suc i) (omega arith) ∙ bit_suc y i) in
    let z : x % 2 ≡ y % 2 = sym (bit_zero x) ∙ same 0 (omega arith) ∙ bit_zero y in
    omega arith

-- below 2 ^ n: no bit from n on
pub high_clear : (x n i : ℕ) → x < 2 ^ n → n ≤ i → bit_at x i ≡ 0
unfolding bit_at
high_clear x n i h l =
    let p : 2 ^ n ≤ 2 ^ i = pow-le-pow_right {n = 2} (omega arith) l in
    let e : x / 2 ^ i ≡ 0 = div-eq_of_lt (omega arith) in
    rw e

-- and no bit from n on: below 2 ^ n
pub below_of_clear : (x m n : ℕ) → x < 2 ^ m → n ≤ m → ((i : ℕ) → n ≤ i → i < m → bit_at x i ≡ 0) → x < 2 ^ n
below_of_clear x m n h l clear =
    let low = mod-lt x {m = 2 ^ n} (one-le-pow n 2 (omega arith)) in
    let p : 2 ^ n ≤ 2 ^ m = pow-le-pow_right {n = 2} (omega arith) l in
    let e : x ≡ x % 2 ^ n = by_bits m x (x % 2 ^ n) h (omega arith) each in
    omega arith
  where
    each : (i : ℕ) → i < m → bit_at x i ≡ bit_at (x % 2 ^ n) i
    each i k =
        dite (dec_lt i n)
        (λ b. sym (low_bits x n i b))
        (λ b. clear i (omega (arith, b)) k ∙ sym (high_clear (x % 2 ^ n) n i (mod-lt x {m = 2 ^ n} (one-le-pow n 2 (omega arith))) (omega (arith, b))))

-- ---- ageing

module _ (marks g : ℕ) where
  pub aged_small : aged marks g < 2 ^ recorded_days
  unfolding aged
  aged_small = omega arith

  -- bit i is what bit i - g was
  pub aged_bit : (i : ℕ) → g ≤ i → i < recorded_days → bit_at (aged marks g) i ≡ bit_at marks (i - g)
  unfolding aged
  aged_bit i h l = low_bits (marks * 2 ^ g) recorded_days i l ∙ shifted marks g i h

  -- the g days between are unmarked
  pub aged_bit_between : (i : ℕ) → i < g → i < recorded_days → bit_at (aged marks g) i ≡ 0
  unfolding aged
  aged_bit_between i h l = low_bits (marks * 2 ^ g) recorded_days i l ∙ shifted_in marks g i h

  pub aged_even : 1 ≤ g → aged marks g % 2 ≡ 0
  aged_even h = sym (bit_zero (aged marks g)) ∙ aged_bit_between 0 (omega arith) (omega arith)

pub no_bit : (i : ℕ) → bit_at 0 i ≡ 0
unfolding bit_at
no_bit i = rw zero-div

pub aged_none : (g : ℕ) → aged 0 g ≡ 0
unfolding aged
aged_none g = rw zero-mul

-- after thirty days nothing is left
pub aged_gone : (marks g : ℕ) → recorded_days ≤ g → aged marks g ≡ 0
aged_gone marks g h =
    by_bits recorded_days (aged marks g) 0 (aged_small marks g) (omega arith)
    (λ i l. aged_bit_between marks g i (omega arith) l ∙ sym (no_bit i))

-- ---- one turn of the two loops

pub aged_start : (marks : ℕ) → marks % 2 ^ recorded_days ≡ aged marks 0
unfolding aged
aged_start marks = rw (pow-zero, mul-one)

pub aged_next : (marks k : ℕ) → aged marks k * 2 % 2 ^ recorded_days ≡ aged marks (k + 1)
unfolding aged
aged_next marks k = rw (add-one, power_suc) (omega arith)

pub bits_next : (marks i : ℕ) → bits_below marks (i + 1) ≡ bits_below marks i + marks / 2 ^ i % 2
unfolding bits_below bit_at
bits_next marks i = rw add-one

pub left_next : (marks i : ℕ) → marks / 2 ^ i / 2 ≡ marks / 2 ^ (i + 1)
left_next marks i = rw (add-one, pow-suc, div-div-eq-div-mul marks (2 ^ i) 2)

pub bits_most : (marks n : ℕ) → bits_below marks n ≤ n
unfolding bits_below
bits_most marks zero = omega arith
bits_most marks (suc n) = omega (arith, bits_most marks n, bit_most marks n)

-- what the two loops are proved by
pub ruleset ageing = (aged_gone, aged_small, aged_start, aged_next)

pub ruleset counting = (bits_next, left_next, bits_most)

pub bits_none : (n : ℕ) → bits_below 0 n ≡ 0
unfolding bits_below
bits_none zero = refl
bits_none (suc n) = omega (arith, bits_none n, no_bit n)

-- one mark, less than thirty days later
pub aged_one : (g : ℕ) → g < recorded_days → aged 1 g ≡ 2 ^ g
unfolding aged
aged_one g h =
    let m : g ≤ 29 = omega arith in
    let p : 2 ^ g ≤ 2 ^ 29 = pow-le-pow_right {n = 2} (omega arith) m in
    let e : 1 * 2 ^ g ≡ 2 ^ g = omega arith in
    rw e (mod-eq_of_lt (omega arith))

-- marks that are not 0 have a bit set
pub some_bit : (n x : ℕ) → x < 2 ^ n → (x ≡ 0 → ⊥) → (i : ℕ) × ((i < n) × (bit_at x i ≡ 1))
some_bit zero x h z = let a = rw pow-zero at h in absurd (z (omega arith))
some_bit (suc n) x h z =
    let a : x < 2 ^ n * 2 = rw pow-suc at h in
    dite (ℕ_discrete (x % 2) 1)
    (λ e. (0, (omega arith, bit_zero x ∙ e)))
    (λ e.
    let rest = some_bit n (x / 2) (omega arith) (λ q. z (omega (arith, e))) in
    (suc rest.0, (omega (arith, rest.1.0), bit_suc x rest.0 ∙ rest.1.1)))

-- The parts of a statement, day after day.
use Prim.Native.Nat.{ℕ, zero, suc, ◌+◌, ◌-◌, ◌≤◌, ◌<◌}
use mathlib.Core.List.{List, [], ◌∷◌, ◌++◌, append-nil}
use mathlib.Core.Logic.{dite}
use mathlib.Core.Path.{◌≡◌, refl, sym, ap, ap₂, ◌∙◌}
use native.Mathlib.Decide.{dec_le}
use native.Mathlib.Nat.{sub-zero}
use native.Mathlib.Omega.{arith}
use lib.IntN.{ℤ}
use lib.ListN.{length, get_or, take, drop, length-append, length-take, length-drop, drop_of_length-le}
use lib.Seq.{take_all, take-take, drop-drop, drop-cons, take_at, drop_at, length-take-le}
use Rattle.verdict.specs.Verdict.{number_of, coded}
use Rattle.settlement.specs.Settlement.{settle_of}
use Rattle.book.specs.Days.{Day}
use Rattle.month_rules.specs.Month.{numbers_taken, settled_day, places_of, settled_days}
use Rattle.month_rules.proofs.OneDay.{day_refused, day_length}
use Rattle.month_theorems.specs.Parts.{day_in, file_in, taken_to, rest_of, part_of}

-- t numbers of `front`, or all of it where it has fewer, and then nothing is behind
module _ (t : ℕ) (front behind : List ℤ) (long : length behind ≡ length front - t) where
  none-behind : length front ≤ t → behind ≡ []
  none-behind h = sym (take_all 0 behind (omega arith))

  front-taken : take t (take t front ++ behind) ≡ take t front
  front-taken =
      dite (dec_le t (length front))
      (λ h. take_at (take t front) behind t (length-take-le t front h))
      (λ h. rw (none-behind (omega (arith, h)), append-nil) (take-take t t front (omega arith)))

  front_left : drop t (take t front ++ behind) ≡ behind
  front_left =
      dite (dec_le t (length front))
      (λ h. drop_at (take t front) behind t (length-take-le t front h))
      (λ h. rw (none-behind (omega (arith, h)), append-nil) (drop_of_length-le (take t front) {i = t} (omega (arith, length-take t front))))

days_length : (days : List Day) (statement : List ℤ) → length (settled_days days statement) ≡ length statement
unfolding settled_days
days_length [] statement = refl
days_length (day ∷ days) statement =
    let t = numbers_taken day.file in
    length-append (take t (settled_day day.file statement)) (settled_days days (drop t statement))
    ∙ omega (
      arith,
      length-take t (settled_day day.file statement),
      day_length day.file statement,
      length-drop t statement,
      days_length days (drop t statement),
    )

module _ (day : Day) (days : List Day) (statement : List ℤ) where
  abbrev t : ℕ
  t = numbers_taken day.file

  long : length (settled_days days (drop t statement)) ≡ length (settled_day day.file statement) - t
  long = omega (arith, days_length days (drop t statement), length-drop t statement, day_length day.file statement)

  -- the first day's part
  first_part : take t (settled_days (day ∷ days) statement) ≡ take t (settled_day day.file statement)
  unfolding settled_days
  first_part = front-taken t (settled_day day.file statement) (settled_days days (drop t statement)) long

  first_rest : drop t (settled_days (day ∷ days) statement) ≡ settled_days days (drop t statement)
  unfolding settled_days
  first_rest = front_left t (settled_day day.file statement) (settled_days days (drop t statement)) long

  -- where the first day is refused and takes all that there is, nothing is written
  first-stays : (number_of (settle_of day.file (length statement)) ≡ 0 → ⊥) → length statement ≤ t → settled_days (day ∷ days) statement ≡ statement
  unfolding settled_days
  first-stays bad short =
      let stays = day_refused day.file statement bad in
      let none = none-behind t (settled_day day.file statement) (settled_days days (drop t statement)) long (omega (arith, day_length day.file statement)) in
      ap₂ ◌++◌ (ap (take t) stays ∙ take_all t statement short) none ∙ append-nil statement

-- the rest behind the first i days, when all are settled: the days from day i on, settled there
rest_settled : (days : List Day) (i : ℕ) (statement : List ℤ)
    → rest_of days i (settled_days days statement) ≡ settled_days (drop i days) (rest_of days i statement)
unfolding taken_to settled_days
rest_settled [] zero statement = refl
rest_settled [] (suc i) statement = refl
rest_settled (day ∷ days) zero statement = refl
rest_settled (day ∷ days) (suc i) statement =
    let t = numbers_taken day.file in
    let k = taken_to days i in
    sym (drop-drop k t (settled_days (day ∷ days) statement))
    ∙ ap (drop k) (first_rest day days statement)
    ∙ rest_settled days i (drop t statement)
    ∙ ap (settled_days (drop i days)) (drop-drop k t statement)

-- behind the parts the statement is as it was
pub behind_stays : (days : List Day) (n : ℕ) (statement : List ℤ) → length days ≤ n → rest_of days n (settled_days days statement) ≡ rest_of days n statement
unfolding settled_days
behind_stays days n statement h =
    rest_settled days n statement ∙ ap (λ l. settled_days l (rest_of days n statement)) (drop_of_length-le days {i = n} h)

module _ (days : List Day) (i : ℕ) (below : i < length days) (statement : List ℤ) where
  -- day i and those behind it
  here : drop i days ≡ day_in days i ∷ drop (suc i) days
  here = drop-cons days i _ below

  pub part_settled : part_of days i (settled_days days statement) ≡ take (numbers_taken (file_in days i)) (settled_day (file_in days i) (rest_of days i statement))
  part_settled =
      ap (take (numbers_taken (file_in days i))) (rest_settled days i statement ∙ ap (λ l. settled_days l (rest_of days i statement)) here)
      ∙ first_part (day_in days i) (drop (suc i) days) (rest_of days i statement)

  -- where day i is refused and takes all that is left, nothing is written from there on
  pub rest_stays : (number_of (settle_of (file_in days i) (length (rest_of days i statement))) ≡ 0 → ⊥)
      → length (rest_of days i statement) ≤ numbers_taken (file_in days i) → rest_of days i (settled_days days statement) ≡ rest_of days i statement
  rest_stays bad short =
      rest_settled days i statement
      ∙ ap (λ l. settled_days l (rest_of days i statement)) here
      ∙ first-stays (day_in days i) (drop (suc i) days) (rest_of days i statement) bad short

pub places_at : (days : List Day) (left i : ℕ) → i < length days → get_or (places_of left days) i 0 ≡ coded (settle_of (file_in days i) (left - taken_to days i))
unfolding places_of taken_to
places_at [] left i h = absurd (omega arith)
places_at (day ∷ days) left zero h = rw sub-zero
places_at (day ∷ days) left (suc i) h =
    let t = numbers_taken day.file in
    let e : left - t - taken_to days i ≡ left - (t + taken_to days i) = omega arith in
    places_at days (left - t) i (omega arith) ∙ rw e

pub places_length : (days : List Day) (left : ℕ) → length (places_of left days) ≡ length days
unfolding places_of
places_length [] left = refl
places_length (day ∷ days) left = ap suc (places_length days (left - numbers_taken day.file))

-- the numbers of day i lie before those of the days behind it
pub taken_within : (days : List Day) (i j : ℕ) → i < j → j ≤ length days → taken_to days i + numbers_taken (file_in days i) ≤ taken_to days j
unfolding taken_to
taken_within [] i j h k = absurd (omega arith)
taken_within (day ∷ days) i zero h k = absurd (omega arith)
taken_within (day ∷ days) zero (suc j) h k = omega arith
taken_within (day ∷ days) (suc i) (suc j) h k = omega (arith, taken_within days i j (omega arith) (omega arith))

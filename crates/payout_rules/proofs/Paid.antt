-- The table that is paid out column by column is the payments and the rests.
use Prim.Native.Nat.{ℕ, ◌+◌, ◌*◌, ◌-◌, ◌/◌, ◌%◌, ◌≤◌, ◌<◌}
use mathlib.Core.List.{List, [], ◌∷◌, ◌++◌}
use mathlib.Core.Logic.{dite}
use mathlib.Core.Path.{◌≡◌, sym, ap, ap₂, ◌∙◌}
use native.Mathlib.Decide.{ℕ_discrete, dec_le}
use native.Mathlib.Omega.{arith}
use lib.IntN.{ℤ, pos}
use lib.ListN.{length, get_or, drop, length-append, length-drop, get_or-append}
use lib.Seq.{ext_get_or, get_or-append-add, get_or-drop}
use Rattle.exact.specs.Total.{total}
use Rattle.limits.specs.Ranges.{day_hours, day_payments, most_basis}
use Rattle.verdict.specs.Verdict.{number_of}
use Rattle.contents.specs.File.{areas_of, body_at}
use Rattle.dayfile.specs.Check.{check_of}
use Rattle.shares.specs.Shares.{shares, sum}
use Rattle.shares.proofs.Length.{shares_length}
use Rattle.settlement.specs.Settlement.{terms_by, own_days}
use Rattle.settlement.proofs.Accepted.{sound_file, own_kept}
use Rattle.collecting.specs.Directions.{Direction, column_at, day_of}
use Rattle.collecting.proofs.Hours.{hours_length}
use Rattle.collecting.proofs.Sizes.{direction_small}
use Rattle.paying.specs.Paid.{rest_of, paid_of}
use Rattle.paying.specs.Columns.{column, column_paid, paid_to}
use Rattle.paying.specs.Ranges.{TableKept}
use Rattle.paying.proofs.Columns.{each_length, paid_to_length, not_paid, paid_there}
use Rattle.payout_rules.specs.PayOut.{areas_to, basis_at, collected_from, collected_at, payments_needed, basis_of, passing_basis, payment_at, rest_at, payments_of}
use Rattle.payout_rules.proofs.Areas.{column_below, hour_of, areas_length, area_there, day_there, column_of_areas}
use Rattle.payout_rules.proofs.Basis.{passing_small}
use Rattle.payout_rules.proofs.Rule.{areas_few}

-- the last of the payments of a column is the rest
paid_payment : (collected : ℤ) (basis : List ℕ) (k : ℕ) → k < length basis → get_or (paid_of collected basis) k (pos 0) ≡ get_or (shares collected basis) k (pos 0)
unfolding paid_of
paid_payment collected basis k below =
    get_or-append (shares collected basis) _ (pos 0) k (omega (arith, shares_length collected basis))

paid_rest : (collected : ℤ) (basis : List ℕ) (k : ℕ) → k ≡ length basis → get_or (paid_of collected basis) k (pos 0) ≡ rest_of collected basis
unfolding paid_of
paid_rest collected basis k e =
    let own = shares collected basis in
    let place : k ≡ length own + 0 = omega (arith, shares_length collected basis) in
    ap (λ (i : ℕ). get_or (own ++ (rest_of collected basis ∷ [])) i (pos 0)) place ∙ get_or-append-add own (rest_of collected basis ∷ []) 0 (pos 0)

-- ---- where each number of the payments stands

module _ (file basis : List ℕ) where
  payments-long : length (payments_of file basis) ≡ day_payments * areas_of file + day_payments
  unfolding payments_of
  payments-long =
      length-append (areas_to (payment_at file basis) (areas_of file)) (day_of (rest_at file basis))
      ∙ omega (arith, areas_length (payment_at file basis) (areas_of file), hours_length (rest_at file basis) 0 day_hours)

  pub payments_length : length (payments_of file basis) ≡ payments_needed file
  payments_length = payments-long ∙ omega arith

  module _ (h : ℕ) (direction : Direction) (below : h < day_hours) where
    pub payment_there : (k : ℕ) → k < areas_of file
        → get_or (payments_of file basis) (day_payments * k + column_at h direction) (pos 0) ≡ payment_at file basis k h direction
    unfolding payments_of
    payment_there k area =
        get_or-append (areas_to (payment_at file basis) (areas_of file)) (day_of (rest_at file basis)) (pos 0) (day_payments * k + column_at h direction)
        (omega (arith, column_below h direction below, areas_length (payment_at file basis) (areas_of file)))
        ∙ area_there (payment_at file basis) h direction (pos 0) below (areas_of file) k area

    pub rest_there : get_or (payments_of file basis) (day_payments * areas_of file + column_at h direction) (pos 0) ≡ rest_at file basis h direction
    unfolding payments_of
    rest_there =
        let front = areas_to (payment_at file basis) (areas_of file) in
        let place : day_payments * areas_of file + column_at h direction ≡ length front + column_at h direction =
        omega (arith, areas_length (payment_at file basis) (areas_of file)) in
        rw place
        (get_or-append-add front (day_of (rest_at file basis)) (column_at h direction) (pos 0) ∙ day_there (λ _. rest_at file basis) h direction (pos 0) below 0)

-- what is lent to be paid out: the numbers of the areas, and what stands behind them
module _ (file basis : List ℕ) (behind : List ℤ) (none : List ℕ) where
  abbrev n : ℕ
  n = areas_of file

  abbrev table : List ℤ
  table = areas_to (collected_from file) n ++ behind

  abbrev bases : List ℕ
  bases = areas_to (basis_of file basis) n ++ none

  module _ (h : ℕ) (direction : Direction) (below : h < day_hours) where
    collected-is : sum (column (pos 0) table n (column_at h direction)) ≡ collected_at file h direction
    unfolding collected_at
    collected-is = ap sum (column_of_areas (collected_from file) h direction (pos 0) below n behind)

    basis-is : column 0 bases n (column_at h direction) ≡ passing_basis file basis h direction
    unfolding passing_basis
    basis-is = column_of_areas (basis_of file basis) h direction 0 below n none

    paid-is : column_paid bases n (column_at h direction) table ≡ paid_of (collected_at file h direction) (passing_basis file basis h direction)
    paid-is = ap₂ paid_of collected-is basis-is

  passing-length : (h : ℕ) (direction : Direction) → length (passing_basis file basis h direction) ≡ n
  unfolding passing_basis
  passing-length h direction = each_length (λ k. basis_of file basis k h direction) 0 n

  -- ---- the table keeps its bounds

  module _ (accepted : number_of (check_of file) ≡ 0) (small : (h : ℕ) → h < day_hours → total (basis_at basis n h) ≤ most_basis)
      (rests : day_payments * (n + 1) ≤ length table) where
    number_there : (k h : ℕ) (direction : Direction) → k < n → h < day_hours
        → get_or table (day_payments * k + column_at h direction) (pos 0) ≡ collected_from file k h direction
    number_there k h direction area hour =
        get_or-append (areas_to (collected_from file) n) behind (pos 0) (day_payments * k + column_at h direction)
        (omega (arith, column_below h direction hour, areas_length (collected_from file) n))
        ∙ area_there (collected_from file) h direction (pos 0) hour n k area

    basis_small : (h : ℕ) (direction : Direction) → h < day_hours → total (passing_basis file basis h direction) ≤ most_basis
    unfolding passing_basis
    basis_small h direction below = omega (arith, small h below, passing_small file basis n h direction)

    pub table_kept : (j : ℕ) → j < day_payments → TableKept bases n j table
    table_kept j below =
        let at = hour_of j below in
        let sound = sound_file file accepted in
        record {
          areas = areas_few file accepted;
          collected = record {
            few = sound.few;
            below = below;
            room = omega arith;
            each = λ k area.
                rw (at.is, number_there k at.hour at.direction area at.below)
                (direction_small (terms_by own_days file k) (body_at file k) at.hour (sound.body k area) at.below
                (record { days = (own_kept file accepted).each k area }) at.direction);
          };
          rests = rests;
          counted = rw (length-append (areas_to (basis_of file basis) n) none) (omega (arith, areas_length (basis_of file basis) n));
          basis = rw (at.is, basis-is at.hour at.direction at.below) (basis_small at.hour at.direction at.below);
        }

  -- ---- and is the payments once every column is paid out

  module _ (rests : day_payments * (n + 1) ≤ length table) where
    abbrev paid : List ℤ
    paid = paid_to bases n day_payments table

    abbrev left : List ℤ
    left = payments_of file basis ++ drop day_payments behind

    table-long : length table ≡ day_payments * n + length behind
    table-long = length-append (areas_to (collected_from file) n) behind ∙ ap (λ (m : ℕ). m + length behind) (areas_length (collected_from file) n)

    same_length : length paid ≡ length left
    same_length =
        paid_to_length bases n table day_payments
        ∙ sym (length-append (payments_of file basis) (drop day_payments behind)
        ∙ omega (arith, payments_length file basis, length-drop day_payments behind, table-long))

    -- behind the rests
    same-behind : (p : ℕ) → day_payments * (n + 1) ≤ p → get_or paid p (pos 0) ≡ get_or left p (pos 0)
    same-behind p past =
        let over = p - day_payments * (n + 1) in
        let front = areas_to (collected_from file) n in
        let in_table : p ≡ length front + (day_payments + over) = omega (arith, areas_length (collected_from file) n) in
        let in_left : p ≡ length (payments_of file basis) + over = omega (arith, payments_length file basis) in
        not_paid bases n table day_payments p (pos 0) (λ k i area column e. omega arith)
        ∙ ap (λ (i : ℕ). get_or table i (pos 0)) in_table
        ∙ get_or-append-add front behind (day_payments + over) (pos 0)
        ∙ sym
        (ap (λ (i : ℕ). get_or left i (pos 0)) in_left
        ∙ get_or-append-add (payments_of file basis) (drop day_payments behind) over (pos 0)
        ∙ get_or-drop day_payments behind over (pos 0))

    -- row k of an hour and direction
    same_row : (k h : ℕ) (direction : Direction) → k < n + 1 → h < day_hours
        → get_or paid (day_payments * k + column_at h direction) (pos 0) ≡ get_or left (day_payments * k + column_at h direction) (pos 0)
    unfolding payment_at rest_at
    same_row k h direction row below =
        let place = day_payments * k + column_at h direction in
        let inside = column_below h direction below in
        let paid-here =
        paid_there bases n table day_payments (column_at h direction) k rests (omega arith) inside row
        ∙ ap (λ (l : List ℤ). get_or l k (pos 0)) (paid-is h direction below) in
        let left_here = get_or-append (payments_of file basis) (drop day_payments behind) (pos 0) place (omega (arith, payments_length file basis)) in
        let long = passing-length h direction in
        paid-here
        ∙ sym
        (left_here
        ∙ dite (ℕ_discrete k n)
        (λ e.
        rw e
        (rest_there file basis h direction below ∙ sym (paid_rest (collected_at file h direction) (passing_basis file basis h direction) n (sym long))))
        (λ other.
        let area : k < n = omega arith in
        payment_there file basis h direction below k area
        ∙ sym (paid_payment (collected_at file h direction) (passing_basis file basis h direction) k (omega (arith, long)))))

    same : (p : ℕ) → get_or paid p (pos 0) ≡ get_or left p (pos 0)
    same p =
        dite (dec_le (day_payments * (n + 1)) p) (same-behind p)
        (λ before.
        let at = hour_of (p % day_payments) (omega arith) in
        let place : p ≡ day_payments * (p / day_payments) + column_at at.hour at.direction = omega (arith, at.is) in
        rw place (same_row (p / day_payments) at.hour at.direction (omega arith) at.below))

    pub all_paid : paid ≡ left
    all_paid = ext_get_or (pos 0) paid left same_length (λ p inside. same p)

use Rattle.std.proofs.Common.{◌≡◌, ℕ, ◌+◌, ◌*◌, ◌≤◌, ◌<◌, List, [], ◌++◌, ℤ, length, drop, refl, sym, ap, ◌∙◌, length-append, length-drop, arith}
use lib.Seq.{drop-drop}
use Rattle.limits.specs.Ranges.{day_payments}
use Rattle.verdict.specs.Verdict.{Accepted, number_of}
use Rattle.verdict.proofs.Accepted.{refuses}
use Rattle.contents.specs.File.{areas_of}
use Rattle.paying.specs.Columns.{paid_to}
use Rattle.paying.specs.Ranges.{TableKept}
use Rattle.paying.proofs.Nothing.{nothing_paid}
use Rattle.payout_rules.specs.PayOut.{areas_to, collected_from, basis_of, payments_of, pay_out_rule, payments_after}
use Rattle.payout_rules.proofs.Areas.{areas_length}
use Rattle.payout_rules.proofs.Basis.{basis_small}
use Rattle.payout_rules.proofs.Rule.{file_accepted, basis_accepted, room_enough, refused, paid_out_then}
use Rattle.payout_rules.proofs.Paid.{table_kept, all_paid}
use Rattle.payout.proofs.pay_out.Goals as goal

-- ---- what is paid out over the bases of the areas, once nothing is refused

module _ (file basis : List ℕ) (payments : List ℤ) (accepted : number_of (pay_out_rule file basis (length payments)) ≡ 0) where
  abbrev n : ℕ
  n = areas_of file

  -- what was collected
  abbrev table : List ℤ
  table = areas_to (collected_from file) n ++ drop (day_payments * n) payments

  -- it has a row for each area and one for the rests
  rows : day_payments * (n + 1) ≤ length table
  rows =
      omega (
        arith,
        room_enough file basis _ accepted,
        length-append (areas_to (collected_from file) n) (drop (day_payments * n) payments),
        areas_length (collected_from file) n,
        length-drop (day_payments * n) payments,
      )

  module _ (behind : List ℕ) where
    abbrev bases : List ℕ
    bases = areas_to (basis_of file basis) n ++ behind

    kept : (j : ℕ) → j < day_payments → TableKept bases n j table
    kept = table_kept file basis _ behind (file_accepted file basis _ accepted) (basis_small basis n (basis_accepted file basis _ accepted)) rows

    -- the table, paid out, is the payments, whatever stands behind the bases
    paid_out : paid_to bases n day_payments table ≡ payments_after file basis Accepted payments
    paid_out =
        let end : day_payments * n + day_payments ≡ day_payments * (n + 1) = omega arith in
        let left : drop day_payments (drop (day_payments * n) payments) ≡ drop (day_payments * (n + 1)) payments =
        drop-drop day_payments (day_payments * n) payments ∙ ap (λ m. drop m payments) end in
        all_paid file basis _ behind rows
        ∙ ap (λ l. payments_of file basis ++ l) left
        ∙ sym (paid_out_then file basis Accepted payments refl)

-- ---- the goals

pub returns-in_err-n-clause-payments_after : goal.returns-in_err-n-clause-payments_after
returns-in_err-n-clause-payments_after c =
    let a = c.args in
    sym (refused a.file.now a.basis.now _ a.payments.now (refuses _ c.from_residual.ensures.0))

-- nothing was collected: the same as if the table were paid out over the areas' bases
pub returns-then-nothing_collected-clause-payments_after : goal.returns-then-nothing_collected-clause-payments_after
returns-then-nothing_collected-clause-payments_after c =
    let a = c.args in
    let n = c.in_ok-n.ensures.areas in
    let bases = areas_to (basis_of a.file.now a.basis.now) (areas_of a.file.now) ++ [] in
    let nothing = sym (nothing_paid bases _ _ (c.nothing_collected.ensures.only_if_zeros c.if-nothing_collected.true)) in
    c.clear_rests.ensures
    ∙ nothing
    ∙ rw (n, rw n at c.collect_areas.ensures) (paid_out _ _ a.payments.now (ap number_of (sym c.in_ok-n.ensures.value)) [])

pub pay_columns-requires : goal.pay_columns-requires
pay_columns-requires c =
    let n = c.in_ok-n.ensures.areas in
    rw (n, rw n at c.collect_areas.ensures, rw n at c.count_bases.ensures)
    (kept c.args.file.now c.args.basis.now c.args.payments.now (ap number_of (sym c.in_ok-n.ensures.value)) _)

pub returns-clause-payments_after : goal.returns-clause-payments_after
returns-clause-payments_after c =
    let n = c.in_ok-n.ensures.areas in
    c.pay_columns.ensures
    ∙ rw (n, rw n at c.collect_areas.ensures, rw n at c.count_bases.ensures)
    (paid_out _ _ c.args.payments.now (ap number_of (sym c.in_ok-n.ensures.value)) _)

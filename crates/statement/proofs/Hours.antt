-- How long the block of an hour is, and that of the first hours together.
use Prim.Native.Nat.{ℕ, zero, suc, ◌+◌, ◌*◌, ◌≤◌, ◌<◌}
use mathlib.Core.List.{List, ◌++◌}
use mathlib.Core.Path.{◌≡◌, sym, ◌∙◌}
use native.Mathlib.Nat.{suc-mul, zero-mul}
use native.Mathlib.Numerals.{add-one}
use native.Mathlib.Omega.{arith}
use lib.ListN.{length, length-append}
use Rattle.limits.specs.Ranges.{day_hours, proved_points}
use Rattle.body.specs.Layout.{kind_of, coordinators_of, demands_at}
use Rattle.body.specs.Kept.{Sound}
use Rattle.surcharge.specs.declared.Terms.{Terms}
use Rattle.amounts.specs.Amounts.{amount_at}
use Rattle.statement.specs.Block.{hour_numbers, hour_block, hours_block}
use Rattle.statement.proofs.Charges.{charges_length}
use Rattle.statement.proofs.Demands.{demands_ranged}

module _ (terms : Terms) (body : List ℕ) (sound : Sound proved_points body) where
  module _ (h : ℕ) (below : h < day_hours) where
    pub hour_length : length (hour_block terms body h) ≡ hour_numbers (coordinators_of body)
    unfolding hour_block
    hour_length =
        let alone = (demands_ranged body sound h below).alone in
        omega (arith, charges_length (kind_of body) (amount_at terms body h) body (demands_at body h) (coordinators_of body) alone)

  pub hours_length : (n : ℕ) → n ≤ day_hours → length (hours_block terms body n) ≡ n * hour_numbers (coordinators_of body)
  unfolding hours_block
  hours_length zero p = sym (zero-mul (hour_numbers (coordinators_of body)))
  hours_length (suc n) p =
      length-append (hours_block terms body n) (hour_block terms body n)
      ∙ omega (arith, hours_length n (omega arith), hour_length n p, suc-mul n (hour_numbers (coordinators_of body)))

pub hours_more : (terms : Terms) (body : List ℕ) (n : ℕ) → hours_block terms body (n + 1) ≡ hours_block terms body n ++ hour_block terms body n
unfolding hours_block
hours_more terms body n = rw (add-one n)

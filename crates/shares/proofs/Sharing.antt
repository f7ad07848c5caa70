-- R(A × C / T), and what the loops of `share_demands` and `share_words` hold at place i and running demand c.
use mathlib.Core.Path.{◌≡◌, refl, sym, ap, ap₂, ◌∙◌}
use mathlib.Core.List.{List, ◌∷◌}
use Prim.Native.Nat.{ℕ, suc, ◌+◌, ◌*◌, ◌≤◌, ◌<◌, ◌^◌}
use native.Mathlib.Nat.{mul-add, mul-le-mul, mul-le-mul_left}
use native.Mathlib.Omega.{arith}
use lib.IntN.{ℤ, pos, negsuc, nat_abs, ◌-ℤ◌, *ℤ-zero}
use lib.ListN.{length, get_or, drop}
use lib.Signed.{mag}
use mir.Syntax.{w64}
use mir.Val.{SFits, to_z, of_z}
use mir.ValLaws.{to_z-of_z}
use Rattle.exact.specs.Round.{round_div, half_up}
use Rattle.exact.proofs.Machine.{within, got}
use Rattle.exact.proofs.Magnitude.{abs_neg}
use Rattle.exact.proofs.Difference.{minus_sub, abs_sub_lt}
use Rattle.exact.proofs.Round.{abs_round, round_zero}
use Rattle.exact.proofs.Filling.{drop_next}
use Rattle.exact.specs.Total.{total}
use Rattle.limits.specs.Ranges.{most_demand, most_amount}
use Rattle.shares.specs.declared.Carried.{Carried}
use Rattle.shares.specs.Shares.{up_to, shares_from, shares}
use Rattle.shares.specs.Carried.{Begun, carried_on}
use Rattle.shares.proofs.Turned.{step_neg}
use Rattle.shares.proofs.Length.{shares_length}
use Rattle.shares.proofs.Running.{DemandAt, Running, running_start, running_within, running_step}

-- an amount and a total in range: their product fits 64 bits
pub share_fits : (amount : ℤ) (t : ℕ) → nat_abs amount ≤ most_amount → t ≤ most_demand → nat_abs amount * t < 2 ^ 63
share_fits amount t h k = omega (arith, mul-le-mul h k)

charge_pos : (bound a t c d : ℕ) → a * (c + d) < bound → nat_abs (up_to (pos a) t (c + d) -ℤ up_to (pos a) t c) < bound
unfolding round_div
charge_pos bound a t c d h =
    let x = half_up (a * (c + d)) t in
    let y = half_up (a * c) t in
    rw (minus_sub x y) (abs_sub_lt x y bound (omega (arith, abs_round (pos (a * (c + d))) t)) (omega (arith, mul-add a c d, abs_round (pos (a * c)) t)))

-- a charge is within the same bound as the product that it is rounded from: the roundings before and behind it have one sign
pub charge_within : (bound : ℕ) (amount : ℤ) (t c d : ℕ) → nat_abs amount * (c + d) < bound
    → nat_abs (up_to amount t (c + d) -ℤ up_to amount t c) < bound
charge_within bound (pos a) t c d h = charge_pos bound a t c d h
charge_within bound (negsuc a) t c d h =
    let amount = pos (suc a) in
    rw (step_neg amount t (c + d) c, abs_neg (up_to amount t (c + d) -ℤ up_to amount t c)) (charge_pos bound (suc a) t c d h)

pub up_to_zero : (amount : ℤ) (t : ℕ) → up_to amount t 0 ≡ pos 0
up_to_zero amount t = rw (*ℤ-zero amount) (round_zero t)

-- ---- an amount on its way

pub begun_on : (s : Carried) (d : ℕ) → Begun s → Begun (carried_on s d)
begun_on s d b = record { rates = b.rates; few = b.few; small = b.small; carried = refl }

-- what is charged fits
pub charge_fits : (s : Carried) (d : ℕ) → Begun s → s.running + d ≤ s.whole → SFits w64 (up_to s.amount s.whole (s.running + d) -ℤ s.before)
charge_fits s d b h =
    rw b.carried (within w64 _ (charge_within _ s.amount s.whole s.running d (omega (arith, mul-le-mul_left (nat_abs s.amount) h, b.small))))

-- and what is stored is what is charged
pub charge_bits : (s : Carried) (d : ℕ) {next : ℤ} → SFits w64 s.amount → SFits w64 s.before → mag next < 2 ^ 63
    → next ≡ up_to (to_z w64 (of_z w64 s.amount)) s.whole (s.running + d)
    → to_z w64 (of_z w64 next) -ℤ to_z w64 (of_z w64 s.before) ≡ up_to s.amount s.whole (s.running + d) -ℤ s.before
charge_bits s d amount before k e =
    ap₂ ◌-ℤ◌ (got w64 k (e ∙ ap (λ a. up_to a s.whole (s.running + d)) (to_z-of_z w64 _ amount))) (to_z-of_z w64 _ before)

-- what both loops hold at place i, apart from what they have written
pub record Shared (amount : ℤ) (ds : List ℕ) (s : Carried) (i : ℕ) : Type 0 where
  pub begun : Begun s
  pub of : s.amount ≡ amount
  pub whole : s.whole ≡ total ds
  pub running : Running ds s.running i
  pub rest : drop i (shares amount ds) ≡ shares_from amount (total ds) s.running (drop i ds)

pub shared_start : (amount : ℤ) (ds : List ℕ) (s : Carried) → Begun s → s.amount ≡ amount → s.whole ≡ total ds → s.running ≡ 0 → Shared amount ds s 0
unfolding shares
shared_start amount ds s begun of whole none =
    record { begun = begun; of = of; whole = whole; running = rw none (running_start ds); rest = rw none }

module _ {amount : ℤ} {ds : List ℕ} {s : Carried} {i : ℕ} (h : Shared amount ds s i) where
  module _ {d : ℕ} (at : DemandAt ds i d) where
    pub next_within : s.running + d ≤ s.whole
    next_within = omega (arith, running_within h.running at, h.whole)

    pub charge_place : i < length (shares amount ds)
    charge_place = rw (shares_length amount ds) at.0

    next-charges : get_or (shares amount ds) i (pos 0) ∷ drop (i + 1) (shares amount ds)
        ≡ (up_to amount (total ds) (s.running + d) -ℤ up_to amount (total ds) s.running) ∷ shares_from amount (total ds) (s.running + d) (drop (i + 1) ds)
    unfolding shares_from
    next-charges = sym (drop_next (shares amount ds) i (pos 0) charge_place) ∙ rw (drop_next ds i 0 at.0, ← at.1) at h.rest

    -- what is charged: R up to the next demand less R up to the one before it
    pub charge_is : {charge : ℤ} → charge ≡ up_to s.amount s.whole (s.running + d) -ℤ s.before → charge ≡ get_or (shares amount ds) i (pos 0)
    charge_is e = e ∙ rw (h.begun.carried, h.of, h.whole) (sym (ap (λ l. get_or l 0 (pos 0)) next-charges))

    pub shared_step : {next : Carried} → next ≡ carried_on s d → Shared amount ds next (i + 1)
    shared_step e =
        rw e (record {
          begun = begun_on s d h.begun;
          of = h.of;
          whole = h.whole;
          running = running_step h.running at;
          rest = ap (drop 1) next-charges;
        })

  pub shared_end : {n : ℕ} → length ds ≡ n → n ≤ i → (i ≡ n) × (length (shares amount ds) ≤ i)
  shared_end long k = (omega (arith, h.running.within), omega (arith, shares_length amount ds))

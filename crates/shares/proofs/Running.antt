-- The running demand: what the demands before place i add up to, as the loops that add them and those that share by them carry it.
use mathlib.Core.Path.{◌≡◌, refl, sym, ap, ◌∙◌}
use mathlib.Core.List.{List}
use Rattle.std.specs.List.{sum}
use Rattle.std.proofs.lemmas.List.Recursion.{is_sum_by}
use Prim.Native.Nat.{ℕ, ◌+◌, ◌≤◌, ◌<◌}
use native.Mathlib.Omega.{arith}
use lib.ListN.{length, get_or, drop, drop_of_length-le}
use Rattle.exact.specs.Total.{total}
use Rattle.exact.proofs.Totals.{total_drop}
use Rattle.words.specs.Word.{word_at}
use Rattle.words.specs.Bytes.{words_from}
use Rattle.words.proofs.Words.{words_count, words_at}

-- d was read at place i
abbrev pub DemandAt : List ℕ → ℕ → ℕ → Type 0
DemandAt demands i d = (i < length demands) × (d ≡ get_or demands i 0)

pub word_demand : (bytes : List ℕ) (from count : ℕ) {i d : ℕ} → i < count → d ≡ word_at bytes (from + i) → DemandAt (words_from bytes from count) i d
word_demand bytes from count {i} below e = (rw (words_count bytes from count) below, e ∙ sym (words_at bytes from count i below))

pub record Running (demands : List ℕ) (c i : ℕ) : Type 0 where
  pub within : i ≤ length demands
  pub left : c + total (drop i demands) ≡ total demands

pub running_start : (demands : List ℕ) → Running demands 0 0
running_start demands = record { within = omega arith; left = omega arith }

module _ {demands : List ℕ} {c i : ℕ} (r : Running demands c i) where
  module _ {d : ℕ} (at : DemandAt demands i d) where
    pub running_within : c + d ≤ total demands
    running_within = omega (arith, total_drop demands i at.0)

    pub running_step : Running demands (c + d) (i + 1)
    running_step = record { within = omega arith; left = omega (arith, total_drop demands i at.0) }

  pub running_end : {n : ℕ} → length demands ≡ n → n ≤ i → c ≡ total demands
  unfolding total
  running_end long h = omega (arith, ap total (drop_of_length-le demands {i = i} (omega arith)), r.left)

pub total_sum : (l : List ℕ) → total l ≡ sum l
unfolding total
total_sum l = is_sum_by total (λ x. x) refl (λ x xs. refl) l

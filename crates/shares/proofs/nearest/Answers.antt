use Prim.Native.Nat.{ℕ, ◌+◌, ◌*◌, ◌/◌, ◌≤◌, ◌<◌}
use mathlib.Core.Path.{◌≡◌, ap}
use native.Mathlib.Omega.{arith}
use Rattle.exact.specs.Round.{half_up}
use Rattle.limits.specs.Ranges.{most_demand}
use Rattle.shares.specs.Rates.{rate_parts}
use Rattle.shares.proofs.ByRates.{guess_of, guess_near, from_guess, rounded}
use Rattle.shares.proofs.nearest.Goals as goal

-- the guess is not too large, and from it the rest is rounded
record Guessed (rest part t c : ℕ) : Type 0 where
  low : guess_of part c * t ≤ rest * c
  result : from_guess (rest * c) t (guess_of part c) ≡ half_up (rest * c) t

guessed : (rest part t c : ℕ) → 0 < t → t ≤ most_demand → c ≤ t → part ≡ rest * rate_parts / t → Guessed rest part t c
guessed rest part t c some most within is =
    let near = rw (← is) at (guess_near rest t c some (omega arith)) in
    record { low = near.0; result = rounded (rest * c) t (guess_of part c) near.0 near.1 }

pub overflow_sub-twice : goal.overflow_sub-twice
overflow_sub-twice c =
    let t = c.requires.whole_in_range in
    (guessed _ _ _ _ t.0 t.1.0 t.1.1 c.requires.rates_of_whole.1.1).low

pub returns : goal.returns
returns c =
    let t = c.requires.whole_in_range in
    let f = guessed _ _ _ _ t.0 t.1.0 t.1.1 c.requires.rates_of_whole.1.1 in
    rw (c.reached.ensures.0, c.reached-2.ensures.0) (ap (λ n. c.args.rates.each * c.args.running + n) f.result)

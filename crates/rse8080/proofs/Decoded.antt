-- The coded answer can be taken apart: number and place are its quotient and remainder by 1,000,000.
use Prim.Native.Nat.{ℕ, ◌/◌, ◌%◌}
use mathlib.Core.List.{List}
use mathlib.Core.Path.{◌≡◌}
use native.Mathlib.Omega.{arith}
use lib.ListN.{length}
use Rattle.verdict.specs.Verdict.{number_of, place_of, coded}
use Rattle.settlement.specs.Settlement.{days_by, own_days}
use Rattle.settlement.proofs.Places.{settle_place}
use Rattle.rse8080.specs.Call.{verdict_of}

pub decoded : (file statement : List ℕ) → let verdict = verdict_of file statement in
    (coded verdict / 1000000 ≡ number_of verdict) × (coded verdict % 1000000 ≡ place_of verdict)
unfolding coded
decoded file statement = let small = settle_place (days_by own_days file) file (length statement / 8) in (omega arith, omega arith)

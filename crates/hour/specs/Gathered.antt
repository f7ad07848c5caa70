-- What is gathered of an hour without a branch.
use Rattle.std.specs.Prelude.{◌≡◌, ℕ, List, ◌==◌, nat_eq}
use Rattle.verdict.specs.Verdict.{number_of, Verdict}
use Rattle.hour.specs.Check.{intervals_rule}
use Rattle.hour.specs.Plain.{present_from, quantity_from}

-- a number that is 0 exactly if the verdict is an acceptance
pub record Gathered (verdict : Verdict) (number : ℕ) : Type 0 where
  pub exact : nat_eq number 0 ≡ (number_of verdict == 0)

-- of the n intervals from word `from` on: a number that is 0 exactly if their rule accepts, how many have a price, and a number that is 0 exactly if these
-- have no quantity
pub record GatheredFrom (body : List ℕ) (from n outside present quantities : ℕ) : Type 0 where
  pub accepted : (start : ℕ) → Gathered (intervals_rule start body from n) outside
  pub counted : present ≡ present_from body from n
  pub some : nat_eq quantities 0 ≡ (quantity_from body from n == 0)

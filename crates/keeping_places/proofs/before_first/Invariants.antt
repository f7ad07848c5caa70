use Rattle.std.proofs.Common.{◌≡◌, ℕ, ◌+◌, ◌-◌, Bool}
use Rattle.keeping_places.specs.Place.{before_first}
use Rattle.keeping_places.proofs.before_first.Given as goal

abbrev pub invariant-loop-k : goal.invariant-loop-k
invariant-loop-k g l =
    (test : ℕ → Bool) → ((date : ℕ) (r : Bool) → goal.F-post g l.meets date r → r ≡ test date)
    → before_first l.room test 0 l.n ≡ l.k + before_first l.room test l.k (l.n - l.k)

-- How a collected amount is paid out (docs/RULES.md, section 14): the shares of those who pass, and the rest.
use Rattle.std.specs.Prelude.{ℕ, cond, List, [], ◌∷◌, ◌++◌, eqb, ℤ, pos}
use Rattle.exact.specs.Total.{total}
use Rattle.shares.specs.Shares.{shares}

-- "the rest is all of it when nobody passes or the passing basis is 0, else 0"; who does not pass has a basis of 0 here
unfoldable pub rest_of : ℤ → (basis : List ℕ) → ℤ
rest_of collected basis = cond (eqb (total basis) 0) collected (pos 0)

-- "payments are shares of the collected amount by running totals", as charges are; behind them the rest
unfoldable pub paid_of : ℤ → (basis : List ℕ) → List ℤ
paid_of collected basis = shares collected basis ++ (rest_of collected basis ∷ [])

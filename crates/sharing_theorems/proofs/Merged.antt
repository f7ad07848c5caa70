-- With neighbouring rows replaced by one, of which the demand is theirs added, that one is charged what they were charged together, and everybody else is
-- charged the same.
use Prim.Native.Nat.{ℕ, zero, suc, ◌+◌}
use mathlib.Core.List.{List, [], ◌∷◌, ◌++◌, map, map-append}
use mathlib.Core.Path.{◌≡◌, refl, sym, ap, ap₂, ◌∙◌}
use lib.IntN.{ℤ}
use lib.ListN.{length, take, drop}
use Rattle.verdict.specs.Verdict.{number_of}
use Rattle.exact.specs.Total.{total}
use Rattle.shares.specs.Shares.{shares, sum, merged_at}
use Rattle.shares.proofs.Merged.{merged}
use Rattle.sharing.specs.declared.Row.{Row}
use Rattle.sharing.specs.Rows.{coordinator_column, demand_column, share_of}
use Rattle.sharing_theorems.specs.Charged.{row_charges, merged_row, merged_rows}
use Rattle.sharing_theorems.proofs.Charges.{charged}

-- a column of the rows, and of the rows with neighbours merged
module _ (field : Row → ℕ) where
  front : (n : ℕ) (rows : List Row) → map field (take n rows) ≡ take n (map field rows)
  front zero rows = refl
  front (suc n) [] = refl
  front (suc n) (row ∷ rows) = ap (λ xs. field row ∷ xs) (front n rows)

  back : (n : ℕ) (rows : List Row) → map field (drop n rows) ≡ drop n (map field rows)
  back zero rows = refl
  back (suc n) [] = refl
  back (suc n) (row ∷ rows) = back n rows

  column-merged : (add : List ℕ → ℕ) (i n number : ℕ) (rows : List Row)
      → field (merged_row number (take n (drop i rows))) ≡ add (map field (take n (drop i rows)))
      → map field (merged_rows i n number rows) ≡ merged_at add i n (map field rows)
  column-merged add i n number rows e =
      let run = front n (drop i rows) ∙ ap (take n) (back i rows) in
      map-append field (take i rows) (merged_row number (take n (drop i rows)) ∷ drop (i + n) rows)
      ∙ ap₂ ◌++◌ (front i rows) (ap₂ ◌∷◌ (e ∙ ap add run) (back (i + n) rows))

pub demands_merged : (i n number : ℕ) (rows : List Row) → demand_column (merged_rows i n number rows) ≡ merged_at total i n (demand_column rows)
demands_merged i n number rows = column-merged _ total i n number rows refl

pub coordinators_merged : (i n number : ℕ) (rows : List Row)
    → coordinator_column (merged_rows i n number rows) ≡ merged_at (λ _. number) i n (coordinator_column rows)
coordinators_merged i n number rows = column-merged _ (λ _. number) i n number rows refl

-- the two calls may be lent other charges
pub charges_merged : (i n number : ℕ) (amount : ℤ) (rows : List Row) (charges charges' : List ℤ) → number_of (share_of amount rows (length charges)) ≡ 0
    → number_of (share_of amount (merged_rows i n number rows) (length charges')) ≡ 0
    → row_charges amount (merged_rows i n number rows) charges' ≡ merged_at sum i n (row_charges amount rows charges)
charges_merged i n number amount rows charges charges' z z' =
    charged amount (merged_rows i n number rows) charges' z' ∙ ap (shares amount) (demands_merged i n number rows)
    ∙ merged amount i n (demand_column rows) ∙ ap (merged_at sum i n) (sym (charged amount rows charges z))

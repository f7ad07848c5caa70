-- How the copy of a table of rows is filled, and what it holds: the columns of the rows, where they are not too many.
use Prim.Native.Nat.{ℕ, ◌+◌, ◌≤◌, ◌<◌, min}
use native.Mathlib.Omega.{arith}
use mathlib.Core.Bool.{true, false}
use mathlib.Core.Logic.{dite}
use mathlib.Core.Path.{◌≡◌, sym, ◌∙◌, ap}
use mathlib.Core.List.{List, [], ◌∷◌, ◌++◌, map}
use native.Mathlib.Decide.{dec_le}
use lib.Dec.{leb}
use Rattle.std.specs.Prelude.{Err}
use lib.IntN.{ℤ}
use lib.ListN.{length, get_or, take, drop, set, length-map, length-take, length-replicate, drop_of_length-le, get_or-map}
use lib.Seq.{take_all, get_or-take, take-append_seam}
use borrow.Author.Tests.{le-leb, lt-leb}
use Rattle.verdict.specs.Verdict.{Verdict}
use Rattle.verdict.specs.declared.Refusal.TheVariants.{BadLength}
use Rattle.limits.specs.Ranges.{most_coordinators}
use Rattle.exact.proofs.Filling.{Filling, fill_start, fill_step, fill_end, drop_next}
use Rattle.sharing.specs.Rows.{coordinator_column, demand_column, SharedRows}
use Rattle.sharing.specs.Columns.{empty_column, column, table_of, SharedTable}
use Rattle.sharing.specs.declared.Row.{Row}
use Rattle.sharing.specs.declared.Table.{Table}

-- ---- a column is filled, a row a turn

-- what stands past the last row
abbrev pub no_row : Row
no_row = record { coordinator = 0; demand = 0 }

-- how many rows are copied
abbrev pub copies : List Row → ℕ
copies rows = min (length rows) most_coordinators

module _ (field : Row → ℕ) (rows : List Row) where
  abbrev first : List ℕ
  first = take most_coordinators (map field rows)

  -- i rows are copied into the column xs
  abbrev pub Copied : List ℕ → ℕ → Type 0
  Copied xs i = Filling first empty_column xs (drop i first) i

  first-length : length first ≡ copies rows
  first-length = simp (length-take, length-map) (omega arith)

  pub copied_none : Copied empty_column 0
  copied_none = fill_start first empty_column

  pub copied_length : (xs : List ℕ) (i : ℕ) → Copied xs i → length xs ≡ most_coordinators
  unfolding empty_column
  copied_length xs i f = f.kept ∙ length-replicate {A = ℕ} most_coordinators 0

  pub copied_next : (xs : List ℕ) (i : ℕ) → Copied xs i → i < copies rows → Copied (set xs i (field (get_or rows i no_row))) (i + 1)
  copied_next xs i f h =
      let there = get_or-take most_coordinators (map field rows) i (field no_row) (omega arith) ∙ get_or-map field rows i no_row in
      let left = drop_next first i (field no_row) (omega (arith, first-length)) ∙ ap (λ x. x ∷ drop (i + 1) first) there in
      fill_step (field (get_or rows i no_row)) (rw left at f) (omega (arith, copied_length xs i f))

  pub copied_all : (xs : List ℕ) (i : ℕ) → Copied xs i → i ≡ copies rows → xs ≡ column (map field rows)
  unfolding column
  copied_all xs i f e =
      let all : i ≡ length first = e ∙ sym first-length in
      let none : drop i first ≡ [] = drop_of_length-le first {i = i} (omega (arith, all)) in
      fill_end (rw none at f) ∙ ap (λ n. first ++ drop n empty_column) all

-- ---- what is had of the copy

held : (numbers : List ℕ) → length numbers ≤ most_coordinators → take (length numbers) (column numbers) ≡ numbers
unfolding column
held numbers h = rw (take_all most_coordinators numbers h) (take-append_seam numbers _)

module _ (rows : List Row) where
  column-held : (field : Row → ℕ) → length rows ≤ most_coordinators → take (length rows) (column (map field rows)) ≡ map field rows
  column-held field h = rw (length-map rows field) at (held (map field rows) (rw (length-map rows field) h))

  -- what the copy is answered is what the rows are answered
  pub as_rows : (amount : ℤ) (charges : List ℤ) (table : Table) (r : Verdict) (after : List ℤ) → table ≡ table_of rows
      → SharedTable amount table charges r after → SharedRows amount rows charges r after
  as_rows amount charges table r after e said =
      dite (dec_le (length rows) most_coordinators)
      (λ h.
      let coordinators : take (length rows) (column (coordinator_column rows)) ≡ coordinator_column rows = column-held _ h in
      let demands : take (length rows) (column (demand_column rows)) ≡ demand_column rows = column-held _ h in
      (said.0 ∙ simp (e, coordinators, demands), said.1 ∙ simp (e, demands)))
      (λ h.
      let some : leb 1 (length rows) ≡ true = le-leb 1 (length rows) (omega (arith, h)) in
      let many : leb (length rows) most_coordinators ≡ false = lt-leb (length rows) most_coordinators (omega (arith, h)) in
      let bad : r ≡ Err BadLength = said.0 ∙ simp (e, some, many) in
      (bad ∙ simp (some, many), said.1 ∙ simp bad))

-- The check of the book, then the places of the table; and what a call leaves.
use Prim.Native.Nat.{ℕ, ◌≤◌}
use mathlib.Core.List.{List, ◌++◌}
use mathlib.Core.Path.{◌≡◌, refl}
use borrow.Author.Tests.{leb-true, eq-eqb, ne_eqb}
use lib.Dec.{leb}
use lib.IntN.{ℤ}
use lib.ListN.{drop}
use Rattle.verdict.specs.declared.Refusal.TheVariants.{DaysDoNotFit}
use Rattle.verdict.specs.Verdict.{number_of, Accepted, Verdict}
use Rattle.verdict.specs.First.{rule◌else◌then◌, ◌or_else◌}
use Rattle.verdict.proofs.First.{kept, or_first, or_second}
use Rattle.book.specs.Read.{count_of, days_of}
use Rattle.book.specs.Check.{book_rule}
use Rattle.month_rules.specs.Month.{places_of, settled_days, month_rule, statement_after, table_after}

module _ (room : List ℕ) (places : ℕ) where
  pub opened : month_rule room places ≡ (book_rule room or_else (rule leb (count_of room) places else DaysDoNotFit then Accepted))
  unfolding month_rule
  opened = refl

  module _ (accepted : number_of (month_rule room places) ≡ 0) where
    pub checked : number_of (book_rule room) ≡ 0
    unfolding month_rule
    checked = or_first _ _ accepted

    pub places_enough : count_of room ≤ places
    unfolding month_rule
    places_enough = leb-true _ _ (kept (leb (count_of room) places) DaysDoNotFit Accepted (or_second (book_rule room) _ accepted)).0

-- ---- the statement and the table after a refusal, and after none

module _ (room : List ℕ) (verdict : Verdict) where
  pub statement_stays : (statement : List ℤ) → (number_of verdict ≡ 0 → ⊥) → statement_after room verdict statement ≡ statement
  unfolding statement_after
  statement_stays statement h = rw (ne_eqb (number_of verdict) 0 h)

  pub statement_settled : (statement : List ℤ) → number_of verdict ≡ 0 → statement_after room verdict statement ≡ settled_days (days_of room) statement
  unfolding statement_after
  statement_settled statement h = rw (eq-eqb (number_of verdict) 0 h)

  pub table_stays : (left : ℕ) (table : List ℕ) → (number_of verdict ≡ 0 → ⊥) → table_after room verdict left table ≡ table
  unfolding table_after
  table_stays left table h = rw (ne_eqb (number_of verdict) 0 h)

  pub table_told : (left : ℕ) (table : List ℕ) → number_of verdict ≡ 0
      → table_after room verdict left table ≡ places_of left (days_of room) ++ drop (count_of room) table
  unfolding table_after
  table_told left table h = rw (eq-eqb (number_of verdict) 0 h)

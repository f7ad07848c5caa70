-- Changing the quantity of an interval whose price is missing changes no number of the statement.
use Prim.Native.Nat.{ℕ, ◌+◌, ◌*◌, ◌≤◌, ◌<◌}
use mathlib.Core.List.{List}
use mathlib.Core.Path.{◌≡◌}
use lib.IntN.{ℤ}
use lib.ListN.{length}
use Rattle.words.specs.Word.{word_at}
use Rattle.words.specs.Bytes.{ChangedAt}
use Rattle.words.proofs.WithWord.{with_changed, with_word_lem}
use Rattle.limits.specs.Ranges.{day_hours, most_quantity}
use Rattle.verdict.specs.Verdict.{number_of}
use Rattle.contents.specs.File.{areas_of, start_at, body_at}
use Rattle.dayfile.specs.Check.{check_of}
use Rattle.surcharge.specs.declared.Terms.{Terms}
use Rattle.statement.specs.Block.{block}
use Rattle.settlement.specs.Settlement.{hour_refusal, own_days, settle_by}
use Rattle.settlement.specs.Shown.{statement_left_by}
use Rattle.comparisons.specs.Changed.{quantity_word, PriceIsMissing, with_quantity}
use Rattle.comparisons.specs.Days.{ByNumberAndDays}
use Rattle.comparisons.proofs.Alike.{block_same, rule_same}
use Rattle.comparisons.proofs.AlikeFiles.{settle_same, left_same}
use Rattle.comparisons.proofs.ChangedBody.{changed_alike}
use Rattle.comparisons.proofs.ChangedChecks.{check_same}
use Rattle.comparisons.proofs.ChangedFile.{inside_file, files_alike}
use Rattle.comparisons.proofs.Days.{own_by}

-- of an area, under any terms: no number of its block, and no refusal of any of its hours
pub area_unchanged : (body body' : List ℕ) (h i : ℕ) → PriceIsMissing body h i → ChangedAt (quantity_word body h i) body body' → (terms : Terms)
    → (block terms body ≡ block terms body')
    × ((start g : ℕ) → g < day_hours → hour_refusal terms start body g ≡ hour_refusal terms start body' g)
area_unchanged body body' h i gone changed terms =
    let alike = changed_alike body body' h i gone changed in
    (block_same body body' alike terms, λ start g below. rule_same body body' alike terms g below start)

-- the check accepts a file with another quantity in such an interval where it accepts the first, while the new quantity is in its range
pub still_accepted : (file file' : List ℕ) (k h i : ℕ) → k < areas_of file → PriceIsMissing (body_at file k) h i
    → ChangedAt (start_at file k + quantity_word (body_at file k) h i) file file'
    → word_at file' (start_at file k + quantity_word (body_at file k) h i) ≤ most_quantity → number_of (check_of file) ≡ 0 → number_of (check_of file')
    ≡ 0
still_accepted file file' k h i area gone changed small z =
    rw (← check_same file z k h i area gone file' changed small) z

-- ---- under any d that goes by the area's number and its own days

-- two files that are settled alike: the same answer, and every number of the statements that are left
abbrev pub SettledAlike : (ℕ → List ℕ → ℕ) → (file file' : List ℕ) → Type 0
SettledAlike d file file' =
    (statement : List ℤ)
    → (settle_by d file (length statement) ≡ settle_by d file' (length statement))
    × (statement_left_by d file statement ≡ statement_left_by d file' statement)

-- a file, and the same file with another quantity in such an interval of area k, both accepted by the check
abbrev pub StatementsUnchanged : (ℕ → List ℕ → ℕ) → Type 0
StatementsUnchanged d =
    (file file' : List ℕ) (k h i : ℕ) → k < areas_of file → PriceIsMissing (body_at file k) h i
    → ChangedAt (start_at file k + quantity_word (body_at file k) h i) file file' → number_of (check_of file) ≡ 0 → number_of (check_of file') ≡ 0
    → SettledAlike d file file'

pub statement_unchanged_by : (d : ℕ → List ℕ → ℕ) → ByNumberAndDays d → StatementsUnchanged d
statement_unchanged_by d by file file' k h i area gone changed z z' statement =
    let alike = files_alike file z k h i area gone file' changed in
    (settle_same file file' alike d by z z' (length statement), left_same file file' alike d by z z' statement)

-- so for any four bytes that are written over such a quantity in an accepted file and stay in its range
abbrev pub AnyQuantity : (ℕ → List ℕ → ℕ) → Type 0
AnyQuantity d =
    (file : List ℕ) (k h i : ℕ) → k < areas_of file → PriceIsMissing (body_at file k) h i → number_of (check_of file) ≡ 0
    → (a b c e : ℕ) → a + 256 * b + 65536 * c + 16777216 * e ≤ most_quantity
    → (number_of (check_of (with_quantity file k h i a b c e)) ≡ 0) × SettledAlike d file (with_quantity file k h i a b c e)

pub any_quantity_by : (d : ℕ → List ℕ → ℕ) → ByNumberAndDays d → AnyQuantity d
any_quantity_by d by file k h i area gone z a b c e small =
    let word = start_at file k + quantity_word (body_at file k) h i in
    let file' = with_quantity file k h i a b c e in
    let changed = with_changed file word a b c e in
    let z' = still_accepted file file' k h i area gone changed (rw (with_word_lem file word a b c e (inside_file file z k h i area gone)) small) z in
    (z', statement_unchanged_by d by file file' k h i area gone changed z z')

-- ---- of `settle`

pub statement_unchanged : StatementsUnchanged own_days
statement_unchanged = statement_unchanged_by own_days own_by

pub any_quantity : AnyQuantity own_days
any_quantity = any_quantity_by own_days own_by

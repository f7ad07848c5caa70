-- The check of a day file (docs/RULES.md, section 10): the length, then the words in file order, the first that breaks its rule.
use Rattle.std.specs.Prelude.{ℕ, ◌+◌, ◌*◌, ◌/◌, ◌%◌, cond, ◌&&◌, ◌||◌, List, eqb, leb, ltb, length}
use Rattle.words.specs.Word.{word_at}
use Rattle.limits.specs.declared.Limits.{Limits}
use Rattle.limits.specs.Ranges.{largest_number, least_body_words, peak_word}
use Rattle.limits.specs.Editions.{limits_of, edition_known, bytes_allowed}
use Rattle.calendar.specs.Date.{real_date}
use Rattle.verdict.specs.Verdict.{Accepted, Verdict}
use Rattle.verdict.specs.declared.Refusal.TheVariants.{BadLength, BadEdition, BadAreaCount, BadDate, BadPeakHours, BadContents}
use Rattle.verdict.specs.First.{rule◌else◌then◌, ◌or_else◌, scan}
use Rattle.body.specs.Check.{body_rule}
use Rattle.contents.specs.File.{edition_of, number_at, start_at, size_at, number_before, due_at, body_at}
use Rattle.dayfile.specs.Ciso.{ciso_before}

-- the four head words of a file of `size` words: edition, trading day, number of areas, peak hours
unfoldable pub file_head_rule : (areas size edition day n peak : ℕ) → Verdict
file_head_rule areas size edition day n peak =
    rule edition_known edition else BadEdition then
    rule real_date day else BadDate then
    rule leb 1 n && leb n areas && leb (4 + 3 * n) size else BadAreaCount then
    rule eqb peak 0 || eqb peak peak_word else BadPeakHours then
    Accepted

-- the head words of a file that has at most `areas` areas
unfoldable pub file_head_of : ℕ → List ℕ → Verdict
file_head_of areas file = file_head_rule areas (length file / 4) (word_at file 0) (word_at file 1) (word_at file 2) (word_at file 3)

-- entry k of n, at word `at`, in a file of `size` words. The numbers rise strictly, a body starts where it is due, has no fewer words than
-- any body has and at most `most`, and ends within the file, the last one with the file.
abbrev pub entry_rule : (most size n k at before due number start words : ℕ) → Verdict
entry_rule most size n k at before due number start words =
    rule ltb before number && leb number largest_number else BadContents at then
    rule eqb start due else BadContents (at + 1) then
    rule leb least_body_words words && leb words most && cond (eqb (k + 1) n) (eqb (start + words) size) (leb (start + words) size)
    else BadContents (at + 2) then
    Accepted

module _ (most : ℕ) (file : List ℕ) where
  unfoldable pub entry_rule_at : ℕ → ℕ → Verdict
  entry_rule_at n k =
      entry_rule most (length file / 4) n k (4 + 3 * k) (number_before file k) (due_at file n k) (number_at file k) (start_at file k) (size_at file k)

  unfoldable pub contents_rule : ℕ → Verdict
  contents_rule n = scan (entry_rule_at n) 0 n

module _ (limits : Limits) (file : List ℕ) where
  unfoldable pub body_rule_at : ℕ → Verdict
  body_rule_at k = body_rule (start_at file k) (body_at file k) limits (ciso_before file k)

  unfoldable pub bodies_rule : ℕ → Verdict
  bodies_rule n = scan body_rule_at 0 n

  -- the check of a file within given limits
  unfoldable pub check_within : Verdict
  check_within =
      rule leb 16 (length file) && bytes_allowed limits (length file) && eqb (length file % 4) 0 else BadLength then
      file_head_of limits.areas file
      or_else contents_rule limits.words file (word_at file 2)
      or_else bodies_rule (word_at file 2)

-- the check: the file's first word sets the limits
unfoldable pub check_of : List ℕ → Verdict
check_of file = check_within (limits_of (edition_of file)) file

-- What is known of an accepted file.
use Prim.Native.Nat.{ℕ, ◌+◌, ◌*◌, ◌/◌, ◌%◌, ◌≤◌, ◌<◌}
use mathlib.Core.Bool.{Bool, true, false, ◌&&◌, ◌||◌}
use mathlib.Core.List.{List}
use mathlib.Core.Logic.{◌⊎◌, inl, inr, ⊎_elim}
use mathlib.Core.Path.{◌≡◌}
use native.Mathlib.Omega.{arith}
use lib.Dec.{leb, eqb}
use lib.ListN.{length}
use borrow.Author.Tests.{leb-true, eqb-true}
use Rattle.words.specs.Word.{word_at}
use Rattle.limits.specs.declared.Limits.{Limits}
use Rattle.limits.specs.Ranges.{peak_word}
use Rattle.limits.specs.Editions.{limits_of, edition_known, KnownEdition, bytes_allowed, WithinBytes}
use Rattle.limits.proofs.Editions.{bytes_within}
use Rattle.calendar.specs.Date.{real_date}
use Rattle.verdict.specs.Verdict.{number_of}
use Rattle.verdict.specs.First.{◌or_else◌}
use Rattle.verdict.proofs.First.{kept, both, or_first, or_second, scan_each}
use Rattle.exact.proofs.Lending.{part_length}
use Rattle.body.specs.Layout.{kind_of}
use Rattle.body.specs.Check.{body_rule}
use Rattle.body.proofs.Rules.{one_ciso}
use Rattle.contents.specs.File.{edition_of, number_at, start_at, size_at, number_before, due_at, body_at}
use Rattle.dayfile.specs.Ciso.{ciso_before}
use Rattle.dayfile.specs.Check.{file_head_rule, file_head_of, contents_rule, bodies_rule, body_rule_at, check_within, check_of}
use Rattle.dayfile.proofs.Entries.{Entry, entry}

either : (a b : Bool) → (a || b) ≡ true → (a ≡ true) ⊎ (b ≡ true)
either true b h = inl h
either false b h = inr h

pub known : (x a b : ℕ) → (eqb x a || eqb x b) ≡ true → (x ≡ a) ⊎ (x ≡ b)
known x a b h = ⊎_elim (λ p. inl (eqb-true x a p)) (λ p. inr (eqb-true x b p)) (either (eqb x a) (eqb x b) h)

pub record Head (areas size edition day n peak : ℕ) : Type 0 where
  pub edition_known_lem : KnownEdition edition
  pub real : real_date day ≡ true
  pub some : 1 ≤ n
  pub few : n ≤ areas
  pub room : 4 + 3 * n ≤ size
  pub peak_known : (peak ≡ 0) ⊎ (peak ≡ peak_word)

rule_kept : (areas size edition day n peak : ℕ) → number_of (file_head_rule areas size edition day n peak) ≡ 0 → Head areas size edition day n peak
unfolding file_head_rule
rule_kept areas size edition day n peak z =
    let a = kept (edition_known edition) _ _ z in
    let b = kept (real_date day) _ _ a.1 in
    let d = kept (leb 1 n && leb n areas && leb (4 + 3 * n) size) _ _ b.1 in
    let e = kept (eqb peak 0 || eqb peak peak_word) _ _ d.1 in
    let f = both (leb 1 n && leb n areas) _ d.0 in
    record {
      edition_known_lem = eqb-true _ _ a.0;
      real = b.0;
      some = leb-true _ _ (both (leb 1 n) _ f.0).0;
      few = leb-true _ _ (both (leb 1 n) _ f.0).1;
      room = leb-true _ _ f.1;
      peak_known = known peak 0 peak_word e.0;
    }

pub head_kept : (areas : ℕ) (file : List ℕ) → number_of (file_head_of areas file) ≡ 0
    → Head areas (length file / 4) (word_at file 0) (word_at file 1) (word_at file 2) (word_at file 3)
unfolding file_head_of
head_kept areas file z = rule_kept _ _ _ _ _ _ z

pub record Length (limits : Limits) (bytes : ℕ) : Type 0 where
  pub least : 16 ≤ bytes
  pub most_bytes : WithinBytes limits bytes
  pub whole : bytes % 4 ≡ 0

-- the check is the check within the limits that the file's first word sets
pub within_limits : (file : List ℕ) → number_of (check_of file) ≡ 0 → number_of (check_within (limits_of (edition_of file)) file) ≡ 0
unfolding check_of
within_limits file z = z

module _ (limits : Limits) (file : List ℕ) (accepted : number_of (check_within limits file) ≡ 0) where
  opened : Length limits (length file)
      × (number_of (file_head_of limits.areas file or_else contents_rule limits.words file (word_at file 2) or_else bodies_rule limits file (word_at file 2))
      ≡ 0)
  unfolding check_within
  opened =
      let n = length file in
      let a = kept (leb 16 n && bytes_allowed limits n && eqb (n % 4) 0) _ _ accepted in
      let b = both (leb 16 n && bytes_allowed limits n) _ a.0 in
      let d = both (leb 16 n) _ b.0 in
      (record { least = leb-true _ _ d.0; most_bytes = bytes_within limits n d.1; whole = eqb-true _ _ b.1 }, a.1)

  pub file_length : Length limits (length file)
  file_length = opened.0

  pub file_head : Head limits.areas (length file / 4) (word_at file 0) (word_at file 1) (word_at file 2) (word_at file 3)
  file_head = head_kept limits.areas file (or_first _ _ opened.1)

  module _ (k : ℕ) (below : k < word_at file 2) where
    pub file_entry : Entry limits.words (length file / 4) (word_at file 2) k (number_before file k) (due_at file (word_at file 2) k) (number_at file k)
        (start_at file k) (size_at file k)
    file_entry = entry _ _ _ _ (or_first _ _ (or_second _ _ opened.1)) below

    pub file_body : number_of (body_rule (start_at file k) (body_at file k) limits (ciso_before file k)) ≡ 0
    unfolding bodies_rule body_rule_at
    file_body = scan_each (body_rule_at limits file) (word_at file 2) (or_second _ _ (or_second _ _ opened.1)) k below

    -- of the areas up to this one at most one is CISO
    pub file_one_ciso : ciso_before file k + kind_of (body_at file k) ≤ 1
    file_one_ciso = one_ciso (start_at file k) (body_at file k) limits (ciso_before file k) file_body

    -- a body has the bytes that its entry says
    pub body_length : length (body_at file k) ≡ 4 * size_at file k
    body_length = part_length file (4 * start_at file k) (4 * size_at file k) (omega (arith, file_entry.inside))

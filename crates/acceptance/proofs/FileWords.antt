-- The words of a file, each judged by its rule.
use Prim.Native.Nat.{ℕ, zero, suc, ◌+◌, ◌*◌, ◌/◌, ◌≤◌, ◌<◌, zero-le}
use mathlib.Core.Bool.{Bool, true, false, cond, ◌&&◌, ◌||◌, true≢false}
use mathlib.Core.List.{List}
use mathlib.Core.Logic.{◌⊎◌, inl, inr, ⊎_elim}
use mathlib.Core.Path.{◌≡◌, refl, sym}
use native.Mathlib.Omega.{arith}
use lib.Dec.{leb, ltb, eqb}
use lib.ListN.{length}
use borrow.Author.Tests.{leb-true, le-leb, eqb-true, eq-eqb}
use Rattle.exact.proofs.Lending.{part_length}
use Rattle.words.specs.Word.{word_at}
use Rattle.limits.specs.declared.Limits.{Limits}
use Rattle.limits.specs.Ranges.{largest_number, least_body_words, peak_word}
use Rattle.limits.specs.Editions.{edition_known, KnownEdition}
use Rattle.calendar.specs.Date.{real_date}
use Rattle.verdict.specs.declared.Refusal.TheVariants.{BadEdition, BadAreaCount, BadDate, BadPeakHours, BadContents}
use Rattle.verdict.specs.Verdict.{number_of, Accepted}
use Rattle.verdict.specs.First.{◌or_else◌}
use Rattle.verdict.proofs.First.{both}
use Rattle.contents.specs.File.{number_at, start_at, size_at, number_before, due_at, body_at}
use Rattle.dayfile.specs.Ciso.{ciso_before}
use Rattle.dayfile.specs.Check.{file_head_rule, file_head_of, entry_rule, entry_rule_at, contents_rule, body_rule_at, bodies_rule}
use Rattle.dayfile.proofs.Entries.{Entry, entry, within}
use Rattle.dayfile.proofs.Facts.{head_kept, known}
use Rattle.body.specs.Kept.{BodyKept}
use Rattle.acceptance.specs.WellFormed.{FileKept}
use Rattle.acceptance.proofs.Tests.{both_true, between, between_test, above, above_test}
use Rattle.acceptance.proofs.Judged.{Judged, Nothing, Word, Both, Each, Behind, none, ◌then◌, ◌and◌, for_each, accepted_judged, rule_judged}
use Rattle.acceptance.proofs.Judged.{or_judged, scan_judged, judged_as, behind_judged}
use Rattle.acceptance.proofs.BodyWords.{body_judged}

-- ---- the head

-- one of two tests holds
either_true : (a b : Bool) → (a ≡ true) ⊎ (b ≡ true) → (a || b) ≡ true
either_true true b h = refl
either_true false b h = ⊎_elim (λ e. absurd (true≢false (sym e))) (λ e. e) h

known_test : (x a b : ℕ) → (x ≡ a) ⊎ (x ≡ b) → (eqb x a || eqb x b) ≡ true
known_test x a b h = either_true (eqb x a) (eqb x b) (⊎_elim (λ e. inl (eq-eqb x a e)) (λ e. inr (eq-eqb x b e)) h)

abbrev HeadWords : (areas size edition day n peak : ℕ) → ℕ → Type 0
HeadWords areas size edition day n peak =
    Word 0 (KnownEdition edition)
    (Word 1 (real_date day ≡ true)
    (Word 2 ((1 ≤ n) × (n ≤ areas) × (4 + 3 * n ≤ size))
    (Word 3 ((peak ≡ 0) ⊎ (peak ≡ peak_word)) Nothing)))

head_judged : (areas size edition day n peak : ℕ) → Judged (file_head_rule areas size edition day n peak) 0 4 (HeadWords areas size edition day n peak)
unfolding file_head_rule
head_judged areas size edition day n peak =
    rule_judged BadEdition _ 1 4 _ _ (omega arith) (omega arith) (omega arith)
    (rule_judged BadDate _ 2 4 _ _ (omega arith) (omega arith) (omega arith)
    (rule_judged BadAreaCount _ 3 4 _ _ (omega arith) (omega arith) (omega arith)
    (rule_judged BadPeakHours Accepted 4 4 _ Nothing (omega arith) (omega arith) (omega arith) (accepted_judged 4 4)
    (eqb peak 0 || eqb peak peak_word) (known peak 0 peak_word) (known_test peak 0 peak_word))
    (leb 1 n && leb n areas && leb (4 + 3 * n) size)
    (λ h.
    let b = both (leb 1 n && leb n areas) (leb (4 + 3 * n) size) h in
    let d = between 1 n areas b.0 in
    (d.0, d.1, leb-true (4 + 3 * n) size b.1))
    (λ h. both_true _ _ (between_test 1 n areas (h.0, h.1)) (le-leb (4 + 3 * n) size h.2)))
    (real_date day) (λ h. h) (λ h. h))
    (edition_known edition) (eqb-true edition 1) (eq-eqb edition 1)

-- ---- an entry of the contents

-- a body ends within the file, the last one with the file
module _ (k n end size : ℕ) where
  abbrev EndKept : Type 0
  EndKept = (end ≤ size) × (k + 1 ≡ n → end ≡ size)

  end_kept : cond (eqb (k + 1) n) (eqb end size) (leb end size) ≡ true → EndKept
  end_kept h = (within (eqb (k + 1) n) end size h, λ q. eqb-true end size (simp (eq-eqb (k + 1) n q) at h))

  by_last : (t : Bool) → eqb (k + 1) n ≡ t → EndKept → cond t (eqb end size) (leb end size) ≡ true
  by_last true e h = eq-eqb end size (h.1 (eqb-true (k + 1) n e))
  by_last false e h = le-leb end size h.0

  end_test : EndKept → cond (eqb (k + 1) n) (eqb end size) (leb end size) ≡ true
  end_test h = by_last (eqb (k + 1) n) refl h

abbrev EntryWords : (most size n k at before due number start words : ℕ) → ℕ → Type 0
EntryWords most size n k at before due number start words =
    Word at ((before < number) × (number ≤ largest_number))
    (Word (at + 1) (start ≡ due)
    (Word (at + 2) ((least_body_words ≤ words) × (words ≤ most) × (start + words ≤ size) × (k + 1 ≡ n → start + words ≡ size)) Nothing))

entry_judged : (most size n k at before due number start words end : ℕ) → at + 2 < end
    → Judged (entry_rule most size n k at before due number start words) at end (EntryWords most size n k at before due number start words)
entry_judged most size n k at before due number start words end room =
    rule_judged (BadContents at) _ (at + 1) end _ _ (omega arith) (omega arith) (omega arith)
    (rule_judged (BadContents (at + 1)) _ (at + 2) end _ _ (omega arith) (omega arith) (omega arith)
    (rule_judged (BadContents (at + 2)) Accepted end end _ Nothing (omega arith) (omega arith) room (accepted_judged end end)
    (leb least_body_words words && leb words most && cond (eqb (k + 1) n) (eqb (start + words) size) (leb (start + words) size))
    (λ h.
    let b = both (leb least_body_words words && leb words most) _ h in
    let d = between least_body_words words most b.0 in
    let e = end_kept k n (start + words) size b.1 in
    (d.0, d.1, e.0, e.1))
    (λ h. both_true _ _ (between_test least_body_words words most (h.0, h.1)) (end_test k n (start + words) size (h.2, h.3))))
    (eqb start due) (eqb-true start due) (eq-eqb start due))
    (ltb before number && leb number largest_number) (above before number largest_number) (above_test before number largest_number)

-- ---- the file

module _ (limits : Limits) (file : List ℕ) where
  abbrev words : ℕ
  words = length file / 4

  module _ (n : ℕ) where
    abbrev EntryOf : ℕ → ℕ → Type 0
    EntryOf k = EntryWords limits.words words n k (4 + 3 * k) (number_before file k) (due_at file n k) (number_at file k) (start_at file k) (size_at file k)

    contents-judged : Judged (contents_rule limits.words file n) 4 (4 + 3 * n) (Each 0 n EntryOf)
    unfolding contents_rule entry_rule_at
    contents-judged =
        scan_judged (entry_rule_at limits.words file n) (λ k. 4 + 3 * k) EntryOf n (λ k p. omega arith)
        (λ k p. entry_judged limits.words words n k (4 + 3 * k) (number_before file k) (due_at file n k) (number_at file k) (start_at file k) (size_at file k)
        (4 + 3 * suc k) (omega arith))
        _ _ (omega arith) (omega arith)

    abbrev BodyWords : ℕ → ℕ → Type 0
    BodyWords k p = BodyKept (λ j. start_at file k + j < p) limits.points (ciso_before file k) (body_at file k)

    -- where the contents are accepted, each body stands where it is due, and up to where the next is due
    module _ (contents : number_of (contents_rule limits.words file n) ≡ 0) where
      module _ (k : ℕ) (below : k < n) where
        entry-k : Entry limits.words words n k (number_before file k) (due_at file n k) (number_at file k) (start_at file k) (size_at file k)
        entry-k = entry limits.words file n k contents below

        body_size : length (body_at file k) / 4 ≡ size_at file k
        body_size = omega (arith, part_length file (4 * start_at file k) (4 * size_at file k) (omega (arith, entry-k.inside)))

        body-ends : due_at file n (suc k) ≡ start_at file k + length (body_at file k) / 4
        unfolding due_at
        body-ends = omega (arith, body_size)

        one-judged : Judged (body_rule_at limits file k) (due_at file n k) (due_at file n (suc k)) (BodyWords k)
        unfolding body_rule_at
        one-judged =
            rw (← entry-k.here, body-ends)
            (body_judged (start_at file k) (body_at file k) limits (ciso_before file k) (omega (arith, body_size, entry-k.least)))

        due-rising : due_at file n k ≤ due_at file n (suc k)
        due-rising = omega (arith, entry-k.here, body-ends)

      first_due : due_at file n 0 ≡ 4 + 3 * n
      unfolding due_at
      first_due = refl

      bodies-end : (m : ℕ) → m ≡ n → 4 + 3 * n ≤ words → due_at file n m ≤ words
      unfolding due_at
      bodies-end zero e room = room
      bodies-end (suc m) e room = (entry-k m (omega arith)).inside

      bodies-judged : 4 + 3 * n ≤ words → Judged (bodies_rule limits file n) (4 + 3 * n) words (Behind (4 + 3 * n) (Each 0 n BodyWords))
      unfolding bodies_rule
      bodies-judged room =
          behind_judged _ _ _ _
          (scan_judged (body_rule_at limits file) (due_at file n) BodyWords n due-rising one-judged _ _ (omega (arith, first_due)) (bodies-end n refl room))

  abbrev n : ℕ
  n = word_at file 2

  -- the words of the file in file order
  abbrev Words : ℕ → Type 0
  Words =
      Both (HeadWords limits.areas words (word_at file 0) (word_at file 1) n (word_at file 3))
      (Both (Each 0 n (EntryOf n)) (Behind (4 + 3 * n) (Each 0 n (BodyWords n))))

  words-judged : 4 ≤ words → Judged (file_head_of limits.areas file or_else contents_rule limits.words file n or_else bodies_rule limits file n) 0 words
      Words
  unfolding file_head_of
  words-judged some =
      or_judged _ _ _ 4 _ _ _ (omega arith) some (head_judged _ _ _ _ _ _)
      (λ p h. (contents-judged n).early p h and record { behind = λ g. absurd (omega arith) })
      (λ z.
      let room = (head_kept limits.areas file z).room in
      or_judged _ _ _ (4 + 3 * n) _ _ _ (omega arith) room (contents-judged n) (λ p h. record { behind = λ g. absurd (omega arith) })
      (λ y. bodies-judged n y room))

  -- they are the words of which `FileKept` speaks
  kept-words : (p : ℕ) → FileKept limits file p → Words p
  kept-words p k =
      (k.edition then k.day then k.areas then k.peak then none)
      and for_each (λ i l. k.number i l then k.body_start i l then k.body_size i l then none)
      and record { behind = λ g. for_each (λ i l. k.body i l g) }

  words_kept : (p : ℕ) → Words p → FileKept limits file p
  words_kept p k =
      let head = k.first in
      let entry : (i : ℕ) → i < n → EntryOf n i p = λ i l. k.second.first.each i zero-le l in
      record {
        edition = λ g. head.here g;
        day = λ g. head.rest.here g;
        areas = λ g. head.rest.rest.here g;
        peak = λ g. head.rest.rest.rest.here g;
        number = λ i l g. (entry i l).here g;
        body_start = λ i l g. (entry i l).rest.here g;
        body_size = λ i l g. (entry i l).rest.rest.here g;
        body = λ i l g. (k.second.second.behind g).each i zero-le l;
      }

  pub file_judged : 4 ≤ words → Judged (file_head_of limits.areas file or_else contents_rule limits.words file n or_else bodies_rule limits file n) 0
      words (FileKept limits file)
  file_judged some = judged_as _ _ _ Words _ words_kept kept-words (words-judged some)

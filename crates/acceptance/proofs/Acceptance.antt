-- What acceptance means, with no order of tests in it, and what a refusal says.
use Prim.Native.Nat.{ℕ, ◌+◌, ◌/◌, ◌%◌, ◌≤◌, ◌<◌}
use mathlib.Core.Bool.{Bool, true, false, ◌&&◌}
use mathlib.Core.List.{List}
use mathlib.Core.Logic.{dite, ◌↔◌}
use mathlib.Core.Path.{◌≡◌, refl, sym, ap, subst, ◌∙◌}
use native.Mathlib.Decide.{ℕ_discrete, dec_lt}
use native.Mathlib.Nat.{le_refl}
use native.Mathlib.Omega.{arith}
use lib.Dec.{leb, eqb}
use lib.ListN.{length}
use borrow.Author.Tests.{leb-true, le-leb, eqb-true, eq-eqb}
use Rattle.words.specs.Word.{word_at}
use Rattle.limits.specs.declared.Limits.{Limits}
use Rattle.limits.specs.Editions.{limits_of, bytes_allowed}
use Rattle.limits.proofs.Editions.{bytes_within, bytes_test}
use Rattle.std.specs.Prelude.{Err}
use Rattle.verdict.specs.declared.Refusal.TheVariants.{BadLength}
use Rattle.verdict.specs.Verdict.{number_of, place_of, Verdict}
use Rattle.verdict.specs.First.{◌or_else◌}
use Rattle.verdict.proofs.First.{both}
use Rattle.body.proofs.Kept.{kept_by}
use Rattle.contents.specs.File.{edition_of, start_at}
use Rattle.dayfile.specs.Check.{file_head_of, contents_rule, bodies_rule, check_within, check_of}
use Rattle.acceptance.specs.Numbers.{number_due}
use Rattle.acceptance.specs.WellFormed.{FileKept, FirstBroken, LengthKept, WellFormed}
use Rattle.acceptance.proofs.Tests.{both_true}
use Rattle.acceptance.proofs.Judged.{Judged, judged_accepts}
use Rattle.acceptance.proofs.FileWords.{file_judged}
use Rattle.acceptance.proofs.Numbers.{file_numbered, due_most}

-- ---- within given limits

module _ (limits : Limits) (file : List ℕ) where
  -- in bytes
  abbrev size : ℕ
  size = length file

  abbrev length_test : Bool
  length_test = leb 16 size && bytes_allowed limits size && eqb (size % 4) 0

  length_kept : length_test ≡ true → LengthKept limits file
  length_kept h =
      let a = both (leb 16 size && bytes_allowed limits size) (eqb (size % 4) 0) h in
      let b = both (leb 16 size) (bytes_allowed limits size) a.0 in
      record { least = leb-true 16 size b.0; most = bytes_within limits size b.1; whole = eqb-true (size % 4) 0 a.1 }

  length-test : LengthKept limits file → length_test ≡ true
  length-test h = both_true _ _ (both_true _ _ (le-leb 16 size h.least) (bytes_test limits size h.most)) (eq-eqb (size % 4) 0 h.whole)

  -- the words, in file order
  abbrev words : Verdict
  words = file_head_of limits.areas file or_else contents_rule limits.words file (word_at file 2) or_else bodies_rule limits file (word_at file 2)

  opened : length_test ≡ true → check_within limits file ≡ words
  unfolding check_within
  opened h = rw h

  shut : length_test ≡ false → check_within limits file ≡ Err BadLength
  unfolding check_within
  shut h = rw h

  judged : length_test ≡ true → Judged words 0 (size / 4) (FileKept limits file)
  judged h = file_judged limits file (omega (arith, (length_kept h).least))

  pub well_formed_accepts : LengthKept limits file → FileKept limits file (size / 4) → number_of (check_within limits file) ≡ 0
  well_formed_accepts l k =
      let t = length-test l in
      rw (opened t) (judged_accepts _ _ _ _ (judged t) k)

  accepted-by : (t : Bool) → length_test ≡ t → number_of (check_within limits file) ≡ 0 → LengthKept limits file × FileKept limits file (size / 4)
  accepted-by true e z = (length_kept e, (judged e).all (rw (opened e) at z) _)
  accepted-by false e z = absurd (omega (arith, rw (shut e) at z))

  pub accepted_well_formed : number_of (check_within limits file) ≡ 0 → LengthKept limits file × FileKept limits file (size / 4)
  accepted_well_formed z = accepted-by length_test refl z

  broken-by : (t : Bool) → length_test ≡ t → (number_of (check_within limits file) ≡ 0 → ⊥) → (number_of (check_within limits file) ≡ 1 → ⊥)
      → FirstBroken limits file (place_of (check_within limits file))
  broken-by true e z y =
      let refused : number_of words ≡ 0 → ⊥ = rw (opened e) at z in
      rw (opened e) (record { inside = (judged e).inside refused; before = (judged e).before refused; broken = (judged e).broken refused _ (omega arith) })
  broken-by false e z y = absurd (y (rw (shut e)))

  word-broken : (number_of (check_within limits file) ≡ 0 → ⊥) → (number_of (check_within limits file) ≡ 1 → ⊥)
      → FirstBroken limits file (place_of (check_within limits file))
  word-broken z y = broken-by length_test refl z y

  -- no word's rule has the number of the length
  length-number : number_of (check_within limits file) ≡ 1 → LengthKept limits file → ⊥
  length-number y l =
      let t = length-test l in
      let one : number_of words ≡ 1 = rw (opened t) at y in
      omega (arith, (judged t).number (λ z. omega arith))

  shut_by : (t : Bool) → length_test ≡ t → (LengthKept limits file → ⊥) → check_within limits file ≡ Err BadLength
  shut_by true e n = absurd (n (length_kept e))
  shut_by false e n = shut e

  length-broken : (LengthKept limits file → ⊥) → check_within limits file ≡ Err BadLength
  length-broken n = shut_by length_test refl n

  -- a word's refusal has the number of its kind of word
  numbered-by : (t : Bool) → length_test ≡ t → (number_of (check_within limits file) ≡ 0 → ⊥) → (number_of (check_within limits file) ≡ 1 → ⊥)
      → LengthKept limits file × (number_due file (place_of (check_within limits file)) ≡ number_of (check_within limits file))
  numbered-by true e z y = (length_kept e, rw (opened e) ((file_numbered limits file).holds (rw (opened e) at z)))
  numbered-by false e z y = absurd (y (rw (shut e)))

  word-numbered : (number_of (check_within limits file) ≡ 0 → ⊥) → (number_of (check_within limits file) ≡ 1 → ⊥)
      → LengthKept limits file × (number_due file (place_of (check_within limits file)) ≡ number_of (check_within limits file))
  word-numbered z y = numbered-by length_test refl z y

  -- ---- there is one first word that breaks its rule

  earlier : (p q : ℕ) → p ≤ q → FileKept limits file q → FileKept limits file p
  earlier p q h k =
      record {
        edition = λ g. k.edition (omega arith);
        day = λ g. k.day (omega arith);
        areas = λ g. k.areas (omega arith);
        peak = λ g. k.peak (omega arith);
        number = λ i l g. k.number i l (omega arith);
        body_start = λ i l g. k.body_start i l (omega arith);
        body_size = λ i l g. k.body_size i l (omega arith);
        body = λ i l g.
            let b = k.body i l (omega arith) in
            kept_by (λ _ j. start_at file i + j < q) _ _ _ _ _ _ (le_refl _) (λ s. (b.kind (omega arith)).1) (λ j s. (omega arith, b));
      }

  not_before : (p q : ℕ) → FirstBroken limits file p → FirstBroken limits file q → p < q → ⊥
  not_before p q f g l = f.broken (earlier (p + 1) q (omega arith) g.before)

  one-first : (p q : ℕ) → FirstBroken limits file p → FirstBroken limits file q → p ≡ q
  one-first p q f g =
      dite (dec_lt p q) (λ l. absurd (not_before p q f g l)) (λ l. dite (dec_lt q p) (λ m. absurd (not_before q p g f m)) (λ m. omega (arith, l, m)))

-- ---- the check of a file

module _ (file : List ℕ) where
  -- the limits that the file's first word sets
  abbrev limits : Limits
  limits = limits_of (edition_of file)

  -- The check accepts exactly the files all of whose words keep their rules, said word by word for every area, coordinator, hour and interval,
  pub accepted_exactly : (number_of (check_of file) ≡ 0 → WellFormed file) × (WellFormed file → number_of (check_of file) ≡ 0)
  unfolding check_of
  accepted_exactly = (
    λ z. let k = accepted_well_formed limits file z in record { length_kept = k.0; words_kept = k.1 },
    λ w. well_formed_accepts limits file w.length_kept w.words_kept,
  )

  -- and a refusal's place is a word that breaks its rule while every word before it keeps its own.
  pub first_broken : (number_of (check_of file) ≡ 0 → ⊥) → (number_of (check_of file) ≡ 1 → ⊥) → FirstBroken limits file (place_of (check_of file))
  unfolding check_of
  first_broken z y = word-broken limits file z y

  -- refusal 1, which stands before the words, is that of the length alone, with place 0
  pub length_exactly : (number_of (check_of file) ≡ 1 → LengthKept limits file → ⊥)
      × ((LengthKept limits file → ⊥) → (number_of (check_of file) ≡ 1) × (place_of (check_of file) ≡ 0))
  unfolding check_of
  length_exactly = (
    length-number limits file,
    λ n. let e = length-broken limits file n in (rw e, rw e),
  )

  -- the check answers one of 2 to 10 at a place exactly when that is the first word that breaks its rule, and the number is that of its kind of word
  pub numbers_exactly : (n p : ℕ) → 2 ≤ n
      → ((number_of (check_of file) ≡ n) × (place_of (check_of file) ≡ p)) ↔ (LengthKept limits file × FirstBroken limits file p × (number_due file p ≡ n))
  unfolding check_of
  numbers_exactly n p word = (
    λ a.
        let z : number_of (check_within limits file) ≡ 0 → ⊥ = λ q. omega (arith, a.0) in
        let y : number_of (check_within limits file) ≡ 1 → ⊥ = λ q. omega (arith, a.0) in
        let numbered = word-numbered limits file z y in
        (numbered.0, subst (FirstBroken limits file) a.1 (word-broken limits file z y), ap (number_due file) (sym a.1) ∙ numbered.1 ∙ a.0),
    λ b.
        let z : number_of (check_within limits file) ≡ 0 → ⊥ =
        λ q. b.1.broken (earlier limits file (p + 1) (length file / 4) (omega (arith, b.1.inside)) (accepted_well_formed limits file q).1) in
        let y : number_of (check_within limits file) ≡ 1 → ⊥ = λ q. length-number limits file q b.0 in
        let same = one-first limits file _ p (word-broken limits file z y) b.1 in
        (sym (word-numbered limits file z y).1 ∙ ap (number_due file) same ∙ b.2, same),
  )

  -- "The check alone gives 0 to 10"
  pub check_most : number_of (check_of file) ≤ 10
  unfolding check_of
  check_most =
      dite (ℕ_discrete (number_of (check_within limits file)) 0) (λ z. omega arith)
      (λ z. dite (ℕ_discrete (number_of (check_within limits file)) 1) (λ y. omega arith)
      (λ y. omega (arith, (word-numbered limits file z y).1, due_most file (place_of (check_within limits file)))))

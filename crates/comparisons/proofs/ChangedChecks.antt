-- The check of an accepted file of which the quantity of an interval without a price is changed: while the new quantity is in range, it says what it said.
use Prim.Native.Nat.{ℕ, zero, suc, ◌+◌, ◌*◌, ◌≤◌, ◌<◌}
use mathlib.Core.List.{List}
use mathlib.Core.Logic.{dite}
use mathlib.Core.Path.{◌≡◌, refl, sym, ap, ap₂, ◌∙◌}
use native.Mathlib.Decide.{ℕ_discrete}
use native.Mathlib.Omega.{arith}
use lib.Dec.{leb}
use lib.ListN.{length}
use borrow.Author.Tests.{le-leb}
use Rattle.limits.specs.declared.Limits.{Limits}
use Rattle.limits.specs.Ranges.{day_hours, most_quantity}
use Rattle.limits.specs.Editions.{limits_of}
use Rattle.words.specs.Word.{word_at}
use Rattle.words.proofs.Part.{word_part}
use Rattle.verdict.specs.Verdict.{number_of}
use Rattle.body.specs.Layout.{points_of, intervals_at, quantity_at}
use Rattle.body.specs.Check.{body_rule}
use Rattle.body.proofs.Kept.{always}
use Rattle.contents.specs.File.{edition_of, areas_of, start_at, size_at, number_before, due_at, body_at}
use Rattle.dayfile.specs.Ciso.{ciso_before}
use Rattle.dayfile.specs.Check.{check_of, check_within, file_head_of, entry_rule_at, contents_rule, body_rule_at, bodies_rule}
use Rattle.acceptance.proofs.SoundAccepted.{file_sound}
use Rattle.words.specs.Bytes.{ChangedAt}
use Rattle.comparisons.specs.Changed.{quantity_word, PriceIsMissing}
use Rattle.comparisons.proofs.AlikeChecks.{body_rule_same}
use Rattle.comparisons.proofs.ChangedFile.{part_length, checked, inside, contents_same, body_is, changed_body, other_body, files_alike}
use Rattle.verdict.proofs.First.{scan_same}

module _ (file : List ℕ) (accepted : number_of (check_of file) ≡ 0) (k h i : ℕ) (area : k < areas_of file) (gone : PriceIsMissing (body_at file k) h i)
    (file' : List ℕ) (changed : ChangedAt (start_at file k + quantity_word (body_at file k) h i) file file') where
  same : (j : ℕ) → j < 4 + 3 * areas_of file → word_at file j ≡ word_at file' j
  same = contents_same file accepted k h i area gone file' changed

  -- ---- the head and the contents

  head-same : (areas : ℕ) → file_head_of areas file ≡ file_head_of areas file'
  unfolding file_head_of
  head-same areas = rw (changed.as_many, same 0 (omega arith), same 1 (omega arith), same 2 (omega arith), same 3 (omega arith))

  number-before-same : (j : ℕ) → j < areas_of file → number_before file j ≡ number_before file' j
  unfolding number_before
  number-before-same zero p = refl
  number-before-same (suc j) p = same _ (omega arith)

  due-same : (n j : ℕ) → j < areas_of file → due_at file n j ≡ due_at file' n j
  unfolding due_at
  due-same n zero p = refl
  due-same n (suc j) p = ap₂ ◌+◌ (same _ (omega arith)) (same _ (omega arith))

  entry-same : (most n j : ℕ) → j < areas_of file → entry_rule_at most file n j ≡ entry_rule_at most file' n j
  unfolding entry_rule_at
  entry-same most n j p =
      rw (
        changed.as_many,
        number-before-same j p,
        due-same n j p,
        same (4 + 3 * j) (omega arith),
        same (4 + 3 * j + 1) (omega arith),
        same (4 + 3 * j + 2)
            (omega arith),
      )

  contents-rule-same : (most : ℕ) → contents_rule most file (areas_of file) ≡ contents_rule most file' (areas_of file)
  unfolding contents_rule
  contents-rule-same most = scan_same _ _ 0 (areas_of file) (λ j p. entry-same most (areas_of file) j (omega (arith, p)))

  -- ---- the bodies

  ciso-same : (j : ℕ) → j ≤ areas_of file → ciso_before file j ≡ ciso_before file' j
  unfolding ciso_before
  ciso-same zero p = refl
  ciso-same (suc j) p =
      ap₂ ◌+◌ (ciso-same j (omega arith)) (((files_alike file accepted k h i area gone file' changed).body j p).head 0 (omega arith))

  module _ (small : word_at file' (start_at file k + quantity_word (body_at file k) h i) ≤ most_quantity) where
    new-quantity : word_at (body_at file' k) (quantity_word (body_at file k) h i) ≤ most_quantity
    new-quantity =
        let word = word_part file' (start_at file k) (size_at file k) (quantity_word (body_at file k) h i) (inside file accepted k h i area gone) in
        rw (← body_is file accepted k h i area gone file' changed k area, word) small

    ranged-here : (g m : ℕ) → g < day_hours → m < 12 * points_of (body_at file k)
        → leb (quantity_at (body_at file k) g m) most_quantity ≡ leb (word_at (body_at file' k) (intervals_at (body_at file k) g + 2 * m)) most_quantity
    ranged-here g m p q =
        let body = body_at file k in
        let word = intervals_at body g + 2 * m in
        dite (ℕ_discrete word (quantity_word body h i))
        (λ e.
        le-leb (word_at body word) most_quantity ((file_sound _ file (checked file accepted) k area).quantity g m p q always)
        ∙ sym (le-leb (word_at (body_at file' k) word) most_quantity (rw e new-quantity)))
        (λ n. ap (λ w. leb w most_quantity) ((changed_body file accepted k h i area gone file' changed).others word n))

    ranged : (j g m : ℕ) → j < areas_of file → g < day_hours → m < 12 * points_of (body_at file j)
        → leb (quantity_at (body_at file j) g m) most_quantity ≡ leb (word_at (body_at file' j) (intervals_at (body_at file j) g + 2 * m)) most_quantity
    ranged j g m below p =
        dite (ℕ_discrete j k)
        (λ e. rw e (ranged-here g m p))
        (λ other q. ap (λ w. leb w most_quantity)
        (other_body file accepted k h i area gone file' changed j below other (intervals_at (body_at file j) g + 2 * m)))

    body-of-same : (limits : Limits) (j : ℕ) → j < areas_of file → body_rule_at limits file j ≡ body_rule_at limits file' j
    unfolding body_rule_at
    body-of-same limits j p =
        body_rule_same (start_at file j) (body_at file j) (body_at file' j) ((files_alike file accepted k h i area gone file' changed).body j p)
        (part_length (start_at file j) (size_at file j) file file' changed.as_many ∙ ap length (body_is file accepted k h i area gone file' changed j p))
        (λ g m below q. ranged j g m p below q)
        limits (ciso_before file j)
        ∙ ap₂ (λ start ciso. body_rule start (body_at file' j) limits ciso) (same _ (omega arith)) (ciso-same j (omega arith))

    bodies-same : (limits : Limits) → bodies_rule limits file (areas_of file) ≡ bodies_rule limits file' (areas_of file)
    unfolding bodies_rule
    bodies-same limits = scan_same _ _ 0 (areas_of file) (λ j p. body-of-same limits j (omega (arith, p)))

    within_same : (limits : Limits) → check_within limits file ≡ check_within limits file'
    unfolding check_within
    within_same limits =
        rw (← same 2 (omega arith), changed.as_many, head-same limits.areas, contents-rule-same limits.words, bodies-same limits)

    pub check_same : check_of file ≡ check_of file'
    unfolding check_of
    check_same = within_same (limits_of (edition_of file)) ∙ ap (λ edition. check_within (limits_of edition) file') (same 0 (omega arith))

-- An accepted file of which only the quantity of an interval without a price is changed: its contents stay, and so do all bodies but for that word.
use Prim.Native.Nat.{ℕ, zero, suc, ◌+◌, ◌*◌, ◌≤◌, ◌<◌}
use mathlib.Core.List.{List}
use mathlib.Core.Logic.{⊎_elim, dite}
use mathlib.Core.Path.{◌≡◌, sym, ap₂, ◌∙◌}
use native.Mathlib.Decide.{ℕ_discrete, dec_lt}
use native.Mathlib.Nat.{eq-or-lt_of_le, le_of_suc-le-suc}
use native.Mathlib.Omega.{arith}
use lib.ListN.{length, get_or, take, drop, length-take, length-drop, get_or-eq_default}
use Rattle.limits.specs.declared.Limits.{Limits}
use Rattle.limits.specs.Editions.{limits_of}
use Rattle.words.specs.Word.{word_at}
use Rattle.words.proofs.Part.{word_part}
use Rattle.verdict.specs.Verdict.{number_of}
use Rattle.body.proofs.Kept.{hour_inside}
use Rattle.contents.specs.File.{edition_of, areas_of, start_at, size_at, due_at, body_at}
use Rattle.dayfile.specs.Check.{check_of, check_within}
use Rattle.acceptance.proofs.SoundAccepted.{file_sound}
use Rattle.dayfile.proofs.Facts.{file_entry, body_length}
use Rattle.words.specs.Bytes.{ChangedAt}
use Rattle.comparisons.specs.Changed.{quantity_word, PriceIsMissing}
use Rattle.comparisons.proofs.Alike.{same_alike}
use Rattle.comparisons.proofs.AlikeFiles.{AlikeFiles}
use Rattle.comparisons.proofs.ChangedBody.{changed_alike}

-- ---- the words of a part, from the words of the whole

abbrev part : List ℕ → ℕ → ℕ → List ℕ
part bytes start count = take (4 * count) (drop (4 * start) bytes)

module _ (start count : ℕ) where
  past : (bytes : List ℕ) (m i : ℕ) → count ≤ m → 4 * m ≤ i → get_or (part bytes start count) i 0 ≡ 0
  past bytes m i h p = get_or-eq_default (part bytes start count) 0 {n = i} (rw length-take (omega arith))

  word_past : (bytes : List ℕ) (m : ℕ) → count ≤ m → word_at (part bytes start count) m ≡ 0
  unfolding word_at
  word_past bytes m h =
      rw (
        past bytes m (4 * m) h (omega arith),
        past bytes m (4 * m + 1) h (omega arith),
        past bytes m (4 * m + 2) h (omega arith),
        past bytes m (4 * m + 3) h
            (omega arith),
      )

  part-word : (bytes bytes' : List ℕ) (m : ℕ) → (m < count → word_at bytes (start + m) ≡ word_at bytes' (start + m))
      → word_at (part bytes start count) m ≡ word_at (part bytes' start count) m
  part-word bytes bytes' m same =
      dite (dec_lt m count)
      (λ p. word_part bytes start count m p ∙ same p ∙ sym (word_part bytes' start count m p))
      (λ n. word_past bytes m (omega (arith, n)) ∙ sym (word_past bytes' m (omega (arith, n))))

  pub part_length : (bytes bytes' : List ℕ) → length bytes ≡ length bytes' → length (part bytes start count) ≡ length (part bytes' start count)
  part_length bytes bytes' e = simp (length-take, length-drop, e)

-- ---- where the bodies of an accepted file stand: behind the contents, and none in another

module _ (file : List ℕ) (accepted : number_of (check_of file) ≡ 0) where
  -- the limits that the file's first word sets
  abbrev limits : Limits
  limits = limits_of (edition_of file)

  pub checked : number_of (check_within limits file) ≡ 0
  unfolding check_of
  checked = accepted

  due : (k : ℕ) → k < areas_of file → start_at file k ≡ due_at file (areas_of file) k
  due k p = (file_entry limits file checked k p).here

  behind-contents : (k : ℕ) → k < areas_of file → 4 + 3 * areas_of file ≤ start_at file k
  unfolding due_at
  behind-contents zero p = omega (arith, due 0 p)
  behind-contents (suc k) p = omega (arith, due (suc k) p, behind-contents k (omega arith))

  in_order : (j k : ℕ) → j < k → k < areas_of file → start_at file j + size_at file j ≤ start_at file k
  unfolding due_at
  in_order j zero l p = absurd (omega arith)
  in_order j (suc k) l p =
      ⊎_elim
      (λ (e : j ≡ k). rw e (omega (arith, due (suc k) p)))
      (λ (m : j < k). omega (arith, due (suc k) p, in_order j k m (omega arith)))
      (eq-or-lt_of_le (le_of_suc-le-suc l))

  module _ (k h i : ℕ) (area : k < areas_of file) (gone : PriceIsMissing (body_at file k) h i) where
    pub inside : quantity_word (body_at file k) h i < size_at file k
    inside =
        let hour = hour_inside limits.points (body_at file k) (file_sound limits file checked k area) h gone.hour in
        omega (arith, hour, body_length limits file checked k area, gone.interval)

    pub inside_file : 4 * (start_at file k + quantity_word (body_at file k) h i) + 4 ≤ length file
    inside_file = omega (arith, inside, (file_entry limits file checked k area).inside)

    -- ---- and so what the change leaves

    module _ (file' : List ℕ) (changed : ChangedAt (start_at file k + quantity_word (body_at file k) h i) file file') where
      pub contents_same : (j : ℕ) → j < 4 + 3 * areas_of file → word_at file j ≡ word_at file' j
      contents_same j p = changed.others j (λ q. omega (arith, behind-contents k area))

      pub body_is : (j : ℕ) → j < areas_of file → part file' (start_at file j) (size_at file j) ≡ body_at file' j
      body_is j p = ap₂ (part file') (contents_same _ (omega arith)) (contents_same _ (omega arith))

      pub changed_body : ChangedAt (quantity_word (body_at file k) h i) (body_at file k) (body_at file' k)
      changed_body =
          rw (← body_is k area)
          (record {
            as_many = part_length (start_at file k) (size_at file k) file file' changed.as_many;
            others = λ m n. part-word (start_at file k) (size_at file k) file file' m (λ _. changed.others _ (λ q. n (omega (arith, q))));
          })

      pub other_body : (j : ℕ) → j < areas_of file → (j ≡ k → ⊥) → (m : ℕ) → word_at (body_at file j) m ≡ word_at (body_at file' j) m
      other_body j p other m =
          rw (← body_is j p)
          (part-word (start_at file j) (size_at file j) file file' m
          (λ below. changed.others _
          (λ q.
          dite (dec_lt j k)
          (λ l. omega (arith, in_order j k l area))
          (λ n. omega (arith, inside, in_order k j (omega (arith, other, n)) p)))))

      pub files_alike : AlikeFiles file file'
      files_alike =
          record {
            areas = contents_same 2 (omega arith);
            peak = contents_same 3 (omega arith);
            number = λ j p. contents_same _ (omega arith);
            start = λ j p. contents_same _ (omega arith);
            body = λ j p.
                dite (ℕ_discrete j k)
                (λ e. rw e (changed_alike (body_at file k) (body_at file' k) h i gone changed_body))
                (λ other. same_alike (body_at file j) (body_at file' j) (other_body j p other));
          }

-- What stands where in a body that is put together; it is sound.
use Prim.Native.Nat.{ℕ, zero, suc, ◌+◌, ◌-◌, ◌*◌, ◌≤◌, ◌<◌}
use mathlib.Core.List.{List, [], append-nil}
use mathlib.Core.Logic.{dite}
use mathlib.Core.Path.{◌≡◌, sym, ap, ◌∙◌}
use native.Mathlib.Decide.{dec_lt}
use native.Mathlib.Omega.{arith}
use lib.IntN.{nat_abs}
use lib.ListN.{length, get_or, replicate, length-replicate, get_or-replicate, get_or-eq_default}
use lib.Seq.{get_or-append-add}
use Rattle.words.specs.Word.{word_at, signed_of}
use Rattle.words.specs.Bytes.{words_bytes, words_from, Below}
use Rattle.words.proofs.Words.{words_length, word_written}
use Rattle.words.proofs.Totals.{total_none}
use Rattle.exact.specs.Total.{total}
use Rattle.limits.specs.Ranges.{most_deficiency, largest_number, least_body_words}
use Rattle.hour.specs.Kept.{DemandKept}
use Rattle.body.specs.Layout.{kind_of, flag_of, points_of, coordinators_of, coordinator_at, coordinator_before, hour_start, hour_at, demands_at, demand_at}
use Rattle.body.specs.Kept.{Sound}
use Rattle.made.specs.Made.{made_front, made_words, zeros, made_body}

-- past the end a word is 0, so that no law about the zeros asks whether its word is inside
word_past : (bytes : List ℕ) (i : ℕ) → length bytes ≤ 4 * i → word_at bytes i ≡ 0
unfolding word_at
word_past bytes i h =
    rw (
      get_or-eq_default bytes 0 {n = 4 * i} h,
      get_or-eq_default bytes 0 {n = 4 * i + 1} (omega arith),
      get_or-eq_default bytes 0 {n = 4 * i + 2} (omega arith),
      get_or-eq_default bytes 0 {n = 4 * i + 3} (omega arith),
    )

-- ---- m zeros behind the front: a variable, so that nothing computes over all the bytes of a body

module _ (deficiency m : ℕ) (small : deficiency < 4294967296) where
  abbrev words : List ℕ
  words = made_words deficiency m

  long : length words ≡ 9 + m
  long = omega (arith, length-replicate {A = ℕ} m 0)

  below : Below 4294967296 words
  below = record { each = by }
    where
      by : (i : ℕ) → i < length words → get_or words i 0 < 4294967296
      by zero h = omega arith
      by (suc zero) h = omega arith
      by (suc (suc zero)) h = omega arith
      by (suc (suc (suc zero))) h = omega arith
      by (suc (suc (suc (suc zero)))) h = omega arith
      by (suc (suc (suc (suc (suc zero))))) h = omega arith
      by (suc (suc (suc (suc (suc (suc zero)))))) h = omega arith
      by (suc (suc (suc (suc (suc (suc (suc zero))))))) h = omega arith
      by (suc (suc (suc (suc (suc (suc (suc (suc zero)))))))) h = small
      by (suc (suc (suc (suc (suc (suc (suc (suc (suc i))))))))) h = rw (get_or-replicate {A = ℕ} m i 0 0 (omega (arith, long))) (omega arith)

  words-there : (i : ℕ) → i < 9 + m → word_at (words_bytes words) i ≡ get_or words i 0
  words-there i h = ap (λ l. word_at l i) (sym (append-nil (words_bytes words))) ∙ word_written words [] i below (omega (arith, long))

  words_behind : (i : ℕ) → word_at (words_bytes words) (9 + i) ≡ 0
  words_behind i =
      dite (dec_lt i m)
      (λ h. words-there (9 + i) (omega (arith, h)) ∙ get_or-append-add (made_front deficiency) (replicate m 0) i 0 ∙ get_or-replicate m i 0 0 h)
      (λ h. word_past (words_bytes words) (9 + i) (omega (arith, h, long, words_length words)))

-- ---- the body

module _ (deficiency : ℕ) (small : deficiency ≤ most_deficiency) where
  abbrev body : List ℕ
  body = made_body deficiency

  -- the nine words of the front
  there : (i : ℕ) → i < 9 → word_at body i ≡ get_or (made_words deficiency zeros) i 0
  unfolding made_body
  there i h = words-there deficiency zeros (omega arith) i (omega arith)

  pub body_long : length body ≡ 4 * least_body_words
  unfolding made_body
  body_long = words_length (made_words deficiency zeros) ∙ ap (λ n. 4 * n) (long deficiency zeros (omega arith))

  pub kind_there : kind_of body ≡ 0
  kind_there = there 0 (omega arith)

  pub flag_there : flag_of body ≡ 1
  flag_there = there 1 (omega arith)

  points-there : points_of body ≡ 1
  points-there = there 5 (omega arith)

  count_there : coordinators_of body ≡ 1
  count_there = there 6 (omega arith)

  pub first_there : word_at body 8 ≡ deficiency
  first_there = there 8 (omega arith)

  -- every word behind them is 0
  pub zero_there : (i : ℕ) → 9 ≤ i → word_at body i ≡ 0
  unfolding made_body
  zero_there i h = let e : i ≡ 9 + (i - 9) = omega arith in rw e (words_behind deficiency zeros (omega arith) (i - 9))

  -- 8 + 24 + 1 words in an hour, with one load point and one coordinator
  pub hour_there : (h : ℕ) → hour_at body h ≡ 8 + 33 * h
  unfolding hour_start
  hour_there h = rw (points-there, count_there) (omega arith)

  signed-zero : (i : ℕ) → word_at body i ≡ 0 → nat_abs (signed_of (word_at body i)) ≡ 0
  unfolding signed_of
  signed-zero i e = rw e

  deficiency-there : (i : ℕ) → 8 ≤ i → word_at body i ≤ most_deficiency
  deficiency-there i h =
      dite (dec_lt i 9)
      (λ l. let e : i ≡ 8 = omega (arith, l) in rw (e, first_there) small)
      (λ l. rw (zero_there i (omega (arith, l))) (omega arith))

  pub made_sound : (most : ℕ) → 1 ≤ most → Sound most body
  unfolding coordinator_before
  made_sound most some =
      record {
        kind = λ _. (omega (arith, kind_there), omega (arith, kind_there));
        flag = λ _. omega (arith, flag_there);
        days = λ _. omega (arith, there 2 (omega arith));
        hub_a = λ _. omega (arith, signed-zero 3 (there 3 (omega arith)));
        hub_b = λ _. omega (arith, signed-zero 4 (there 4 (omega arith)));
        points = λ _. (omega (arith, points-there), omega (arith, points-there));
        coordinators = λ _. (
          omega (arith, count_there),
          rw (kind_there, count_there) (omega arith),
          rw (points-there, count_there) (omega (arith, body_long)),
        );
        coordinator = λ i p _. coordinator i (omega (arith, p, count_there));
        deficiency = λ h i p q _. deficiency-there (hour_at body h + i) (omega (arith, hour_there h));
        requirement = λ h p _. omega (arith, zero_there (hour_at body h + 6) (omega (arith, hour_there h)));
        mec = λ h p _. omega (arith, signed-zero _ (zero_there (hour_at body h + 7) (omega (arith, hour_there h))));
        quantity = λ h i p q _. omega (arith, zero_there (hour_at body h + 8 + 2 * i) (omega (arith, hour_there h)));
        price = λ h i p q _ g. omega (arith, signed-zero _ (zero_there (hour_at body h + 8 + 2 * i + 1) (omega (arith, hour_there h))));
        demand = λ h i p q _. demand h i (omega (arith, q, count_there));
      }
    where
      -- there is one coordinator
      coordinator : (i : ℕ) → i < 1 → (coordinator_before body i < coordinator_at body i) × (coordinator_at body i ≤ largest_number)
      coordinator zero p = rw (there 7 (omega arith)) (omega arith, omega arith)
      coordinator (suc i) p = absurd (omega arith)

      demand : (h i : ℕ) → i < 1 → DemandKept (total (words_from body (demands_at body h) i)) (demand_at body h i)
      demand h zero p =
          let z = zero_there (demands_at body h + 0) (omega (arith, hour_there h)) in
          (omega arith, omega (arith, total_none body (demands_at body h)))
      demand h (suc i) p = absurd (omega arith)

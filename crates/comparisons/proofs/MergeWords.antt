-- What stands where in the body that is constructed with neighbours merged; it is one in which they are one.
use Prim.Native.Nat.{ℕ, suc, ◌+◌, ◌*◌, ◌-◌, ◌≤◌, ◌<◌}
use mathlib.Core.List.{List, [], ◌∷◌, ◌++◌, append-nil}
use mathlib.Core.Path.{◌≡◌, refl, sym, ap, ap₂, ◌∙◌}
use native.Mathlib.Omega.{arith}
use lib.ListN.{length, get_or, take, drop, length-append, take-append-drop, get_or-append}
use lib.Seq.{get_or-append-add, get_or_at, ext_get_or}
use Rattle.words.specs.Word.{word_at}
use Rattle.hour.specs.Layout.{hour_words}
use Rattle.limits.specs.Ranges.{day_hours, most_demand, most_coordinators}
use Rattle.body.specs.Layout.{kind_of, points_of, coordinators_of, body_words, hour_start, hour_at, demands_at, demands_of}
use Rattle.body.specs.Kept.{Sound}
use Rattle.body.proofs.Kept.{always, hour_demand}
use Rattle.body.proofs.HourPlaces.{hour_room}
use Rattle.words.specs.Bytes.{words_bytes, words_from, Below}
use Rattle.words.proofs.Words.{words_length, word_written, words_count, words_at, word_below}
use Rattle.exact.specs.Total.{total}
use Rattle.shares.proofs.Merged.{merged_length}
use Rattle.shares.specs.Shares.{merged_at}
use Rattle.exact.proofs.Totals.{total_append}
use Rattle.settlement.proofs.Places.{few_coordinators}
use Rattle.comparisons.specs.Merge.{Merged, Mergeable, joined, merged_front, merged_hour, merged_body}
use Rattle.comparisons.proofs.Joined.{joined_length, joined_at, below_append, below_cons, below_merged, below_joined}

start_is : (points coordinators h : ℕ) → hour_start points coordinators h ≡ 7 + coordinators + h * hour_words points coordinators
unfolding hour_start
start_is points coordinators h = refl

-- a run of demands adds up to no more than all of them
run_total : (i n : ℕ) (ds : List ℕ) → total (take n (drop i ds)) ≤ total ds
run_total i n ds =
    let rest = drop i ds in
    let a = sym (total_append (take i ds) rest) ∙ ap total (take-append-drop i ds) in
    let b = sym (total_append (take n rest) (drop n rest)) ∙ ap total (take-append-drop n rest) in
    omega (arith, a, b)

module _ (most i n number : ℕ) (body : List ℕ) (g : Mergeable i n number body) (sound : Sound most body) (bytes : Below 256 body) where
  abbrev points : ℕ
  points = points_of body

  abbrev count : ℕ
  count = coordinators_of body

  abbrev fewer : ℕ
  fewer = count + 1 - n

  abbrev other : List ℕ
  other = merged_body i n number body

  abbrev words : List ℕ
  words = merged_front i n number body ++ joined (merged_hour i n number body) day_hours

  -- ---- lengths

  demands-total : (h : ℕ) → h < day_hours → total (demands_of body h) ≤ most_demand
  demands-total h p = hour_demand most body sound h p count (omega arith)

  front_length : length (merged_front i n number body) ≡ 7 + fewer
  front_length =
      let numbers = words_from body 7 count in
      length-append (words_from body 0 6) _
      ∙ omega (
        arith,
        words_count body 0 6,
        words_count body 7 count,
        merged_length (λ _. number) i n numbers
            (omega (arith, words_count body 7 count, g.inside)),
      )

  hour_length : (h : ℕ) → length (merged_hour i n number body h) ≡ hour_words points fewer
  hour_length h =
      let ds = demands_of body h in
      let long = words_count body (demands_at body h) count in
      length-append (words_from body (hour_at body h) (8 + 24 * points)) _
      ∙ omega (arith, words_count body (hour_at body h) (8 + 24 * points), long, merged_length total i n ds (omega (arith, long, g.inside)), g.some)

  hours_length : length (joined (merged_hour i n number body) day_hours) ≡ day_hours * hour_words points fewer
  hours_length = joined_length (merged_hour i n number body) (hour_words points fewer) day_hours (λ h p. hour_length h)

  words_long : length words ≡ body_words points fewer
  words_long = length-append (merged_front i n number body) _ ∙ omega (arith, front_length, hours_length)

  pub other_length : length other ≡ 4 * body_words points fewer
  unfolding merged_body
  other_length = words_length words ∙ ap (λ m. 4 * m) words_long

  -- ---- every word is one

  from-below : (at m : ℕ) → Below 4294967296 (words_from body at m)
  from-below at m = record { each = λ j h. let p = rw (words_count body at m) at h in rw (words_at body at m j p) (word_below body bytes (at + j)) }

  demands-below : (h : ℕ) → Below 4294967296 (demands_of body h)
  demands-below h = from-below (demands_at body h) count

  few : count ≤ most_coordinators
  few = let kind = (sound.kind always).0 in omega (arith, few_coordinators (kind_of body) count kind (sound.coordinators always).1, kind)

  words-below : Below 4294967296 words
  words-below =
      below_append 4294967296 (merged_front i n number body) _
      (below_append 4294967296 (words_from body 0 6) _ (from-below 0 6)
      (below_cons 4294967296 fewer _ (omega (arith, few))
      (below_merged 4294967296 (λ _. number) i n (words_from body 7 count) (omega (arith, g.small)) (from-below 7 count))))
      (below_joined 4294967296 (merged_hour i n number body) day_hours
      (λ h p. below_append 4294967296 (words_from body (hour_at body h) (8 + 24 * points)) _ (from-below (hour_at body h) (8 + 24 * points))
      (below_merged 4294967296 total i n (demands_of body h) (omega (arith, run_total i n (demands_of body h), demands-total h p)) (demands-below h))))

  -- ---- what stands where

  word-is : (w : ℕ) → w < body_words points fewer → word_at other w ≡ get_or words w 0
  unfolding merged_body
  word-is w h = ap (λ l. word_at l w) (sym (append-nil (words_bytes words))) ∙ word_written words [] w words-below (omega (arith, words_long))

  front_is : (w : ℕ) → w < 7 + fewer → word_at other w ≡ get_or (merged_front i n number body) w 0
  front_is w h = word-is w (omega arith) ∙ get_or-append (merged_front i n number body) _ 0 w (omega (arith, front_length))

  pub head_is : (w : ℕ) → w < 6 → word_at other w ≡ word_at body w
  head_is w h =
      front_is w (omega arith)
      ∙ get_or-append (words_from body 0 6) _ 0 w (omega (arith, words_count body 0 6))
      ∙ words_at body 0 6 w h ∙ ap (word_at body) (omega arith)

  pub count_is : coordinators_of other ≡ fewer
  count_is = front_is 6 (omega arith) ∙ get_or_at (words_from body 0 6) fewer _ 0 6 (words_count body 0 6)

  pub coordinator_is : (j : ℕ) → j < fewer → word_at other (7 + j) ≡ get_or (merged_at (λ _. number) i n (words_from body 7 count)) j 0
  coordinator_is j h =
      let e : 7 + j ≡ length (words_from body 0 6) + suc j = omega (arith, words_count body 0 6) in
      front_is (7 + j) (omega arith)
      ∙ ap (λ w. get_or (merged_front i n number body) w 0) e
      ∙ get_or-append-add (words_from body 0 6) (fewer ∷ merged_at (λ _. number) i n (words_from body 7 count)) (suc j) 0

  hour_there : (h : ℕ) → hour_at other h ≡ hour_start points fewer h
  hour_there h = ap₂ (λ l k. hour_start l k h) (head_is 5 (omega arith)) count_is

  hour-is : (h j : ℕ) → h < day_hours → j < hour_words points fewer → word_at other (hour_at other h + j) ≡ get_or (merged_hour i n number body h) j 0
  hour-is h j p q =
      let width = hour_words points fewer in
      let front = merged_front i n number body in
      let e : hour_start points fewer h + j ≡ length front + (h * width + j) = omega (arith, start_is points fewer h, front_length) in
      ap (λ at. word_at other (at + j)) (hour_there h)
      ∙ word-is (hour_start points fewer h + j) (omega (arith, hour_room points fewer h p))
      ∙ ap (λ w. get_or words w 0) e
      ∙ get_or-append-add (merged_front i n number body) (joined (merged_hour i n number body) day_hours) (h * width + j) 0
      ∙ joined_at (merged_hour i n number body) width day_hours (λ k r. hour_length k) h j p q

  -- ---- it is a body in which the neighbours are one

  own-hour : (h j : ℕ) → h < day_hours → j < 8 + 24 * points → word_at other (hour_at other h + j) ≡ word_at body (hour_at body h + j)
  own-hour h j p q =
      hour-is h j p (omega arith)
      ∙ get_or-append (words_from body (hour_at body h) (8 + 24 * points)) _ 0 j (omega (arith, words_count body (hour_at body h) (8 + 24 * points)))
      ∙ words_at body (hour_at body h) (8 + 24 * points) j q

  own-demands : (h : ℕ) → h < day_hours → demands_of other h ≡ merged_at total i n (demands_of body h)
  own-demands h p =
      let ds = demands_of body h in
      let long = words_count body (demands_at body h) count in
      let merged-long = merged_length total i n ds (omega (arith, long, g.inside)) in
      let other-long = words_count other (demands_at other h) (coordinators_of other) in
      let front = words_from body (hour_at body h) (8 + 24 * points) in
      let front_long = words_count body (hour_at body h) (8 + 24 * points) in
      ext_get_or 0 (demands_of other h) (merged_at total i n ds) (omega (arith, merged-long, long, other-long, count_is, g.inside, g.some))
      (λ j q.
      let r : j < fewer = omega (arith, q, other-long, count_is) in
      let there : demands_at other h + j ≡ hour_at other h + (8 + 24 * points + j) = omega (arith, head_is 5 (omega arith)) in
      let behind : 8 + 24 * points + j ≡ length front + j = omega (arith, front_long) in
      words_at other (demands_at other h) (coordinators_of other) j (omega (arith, r, count_is))
      ∙ ap (word_at other) there
      ∙ hour-is h (8 + 24 * points + j) p (omega (arith, r))
      ∙ ap (λ w. get_or (merged_hour i n number body h) w 0) behind
      ∙ get_or-append-add front (merged_at total i n ds) j 0)

  pub built : Merged i n body other
  built =
      record {
        some = g.some;
        inside = g.inside;
        fewer = omega (arith, count_is, g.inside, g.some);
        same = record { head = head_is; hour = own-hour };
        demands = own-demands;
      }

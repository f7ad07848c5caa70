-- A sound body is sound with its neighbours merged.
use Prim.Native.Nat.{ℕ, zero, suc, ◌+◌, ◌-◌, ◌≤◌, ◌<◌}
use mathlib.Core.List.{List, ◌∷◌}
use mathlib.Core.Path.{◌≡◌, refl, sym}
use native.Mathlib.Decide.{le_ind}
use native.Mathlib.Nat.{le_refl, le_trans}
use native.Mathlib.Numerals.{add-one}
use native.Mathlib.Omega.{arith}
use lib.ListN.{length, get_or}
use Rattle.words.specs.Word.{word_at}
use Rattle.exact.specs.Total.{total}
use Rattle.words.proofs.Totals.{total_more}
use Rattle.limits.specs.Ranges.{day_hours, largest_number}
use Rattle.hour.specs.Kept.{DemandKept}
use Rattle.body.specs.Layout.{coordinators_of, coordinator_at, coordinator_before, demands_at, demand_at}
use Rattle.body.specs.Kept.{Sound}
use Rattle.body.proofs.Kept.{always, hour_demand}
use Rattle.words.specs.Bytes.{Below, words_from}
use Rattle.words.proofs.Words.{words_count, words_at}
use Rattle.shares.specs.Shares.{merged_at}
use Rattle.shares.proofs.Merged.{merged_length}
use Rattle.shares.proofs.Rising.{RisesAt, merged_rises}
use Rattle.comparisons.specs.Merge.{Mergeable, Merged, merged_body}
use Rattle.comparisons.proofs.SameHours.{quantity_same, price_same}
use Rattle.comparisons.proofs.MergedBody.{demand_same}
use Rattle.comparisons.proofs.MergeWords.{other_length, head_is, count_is, coordinator_is, built}

running_next : (body : List ℕ) (from j : ℕ) → total (words_from body from (suc j)) ≡ total (words_from body from j) + word_at body (from + j)
running_next body from j = rw (← add-one j) (total_more body from j)

running_grows : (body : List ℕ) (from j m : ℕ) → j ≤ m → total (words_from body from j) ≤ total (words_from body from m)
running_grows body from j m h =
    le_ind (λ k. total (words_from body from j) ≤ total (words_from body from k)) (le_refl _)
    (λ k _ p. le_trans p (omega (arith, running_next body from k))) m h

-- numbers that are those of a body's coordinators, with 0 before them
before_in : (body numbers : List ℕ) (j : ℕ) → ((k : ℕ) → k < j → get_or numbers k 0 ≡ coordinator_at body k)
    → get_or (0 ∷ numbers) j 0 ≡ coordinator_before body j
unfolding coordinator_before
before_in body numbers zero same = refl
before_in body numbers (suc j) same = same j (omega arith)

module _ (most i n number : ℕ) (body : List ℕ) (g : Mergeable i n number body) (sound : Sound most body) (bytes : Below 256 body) where
  abbrev count : ℕ
  count = coordinators_of body

  abbrev fewer : ℕ
  fewer = count + 1 - n

  abbrev other : List ℕ
  other = merged_body i n number body

  abbrev numbers : List ℕ
  numbers = words_from body 7 count

  m : Merged i n body other
  m = built most i n number body g sound bytes

  -- ---- the coordinator numbers rise

  abbrev merged_numbers : List ℕ
  merged_numbers = merged_at (λ _. number) i n numbers

  many : length numbers ≡ count
  many = words_count body 7 count

  number_is : (j : ℕ) → j < count → get_or numbers j 0 ≡ coordinator_at body j
  number_is j p = words_at body 7 count j p

  before-is : (j : ℕ) → j ≤ count → get_or (0 ∷ numbers) j 0 ≡ coordinator_before body j
  before-is j p = before_in body numbers j (λ k q. number_is k (omega arith))

  each : (j : ℕ) → j < length numbers → RisesAt numbers j
  each j p =
      let q : j < count = omega (arith, many) in
      rw (before-is j (omega arith), number_is j q) (sound.coordinator j q always)

  merged-is : (j : ℕ) → j < fewer → get_or merged_numbers j 0 ≡ coordinator_at other j
  merged-is j p = sym (coordinator_is most i n number body g sound bytes j p)

  rises : (j : ℕ) → j < fewer → (coordinator_before other j < coordinator_at other j) × (coordinator_at other j ≤ largest_number)
  rises j p =
      let inside : i + n ≤ length numbers = omega (arith, many, g.inside) in
      let long : j < length merged_numbers = omega (arith, merged_length (λ _. number) i n numbers inside, many) in
      let above : get_or (0 ∷ numbers) i 0 < number = rw (before-is i (omega (arith, g.inside))) g.above in
      rw (before_in other merged_numbers j (λ k q. merged-is k (omega arith)), merged-is j p) at
      (merged_rises n number g.small i numbers each (omega (arith, inside)) above
      (λ q. rw (number_is (i + n) (omega (arith, many))) (g.under (omega (arith, many)))) j long)

  -- ---- the demands

  demand-there : (h j : ℕ) → h < day_hours → j < coordinators_of other → DemandKept (total (words_from other (demands_at other h) j)) (demand_at other h j)
  demand-there h j p q =
      let all = demand_same i n body other m h p in
      let up = running_grows other (demands_at other h) (suc j) (coordinators_of other) q in
      let next = running_next other (demands_at other h) j in
      let most-demand = hour_demand most body sound h p count (omega arith) in
      (omega (arith, all, up, next, most-demand), omega (arith, all, up, next, most-demand))

  pub merged_sound : Sound most other
  merged_sound =
      let same = m.same in
      let points = head_is most i n number body g sound bytes 5 (omega arith) in
      let fewer-is = count_is most i n number body g sound bytes in
      let long = other_length most i n number body g sound bytes in
      record {
        kind = λ a. rw (same.head 0 (omega arith)) (sound.kind a);
        flag = λ a. rw (same.head 1 (omega arith)) (sound.flag a);
        days = λ a. rw (same.head 2 (omega arith)) (sound.days a);
        hub_a = λ a. rw (same.head 3 (omega arith)) (sound.hub_a a);
        hub_b = λ a. rw (same.head 4 (omega arith)) (sound.hub_b a);
        points = λ a. rw points (sound.points a);
        coordinators = λ a. (
          omega (arith, fewer-is, g.inside, g.some),
          rw (same.head 0 (omega arith)) (omega (arith, fewer-is, g.some, (sound.coordinators a).1)),
          omega (arith, long, points, fewer-is),
        );
        coordinator = λ j p a. rises j (omega (arith, p, fewer-is));
        deficiency = λ h j p q a. rw (same.hour h j p (omega arith)) (sound.deficiency h j p q a);
        requirement = λ h p a. rw (same.hour h 6 p (omega arith)) (sound.requirement h p a);
        mec = λ h p a. rw (same.hour h 7 p (omega arith)) (sound.mec h p a);
        quantity = λ h j p q a. rw (quantity_same body other same h j p (omega (arith, q, points))) (sound.quantity h j p (omega (arith, q, points)) a);
        price = λ h j p q a. rw (price_same body other same h j p (omega (arith, q, points))) (sound.price h j p (omega (arith, q, points)) a);
        demand = λ h j p q a. demand-there h j p q;
      }

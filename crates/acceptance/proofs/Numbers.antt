-- A refusal of the check has the number of the kind of word that it names.
use Prim.Native.Nat.{ℕ, zero, suc, ◌+◌, ◌*◌, ◌-◌, ◌/◌, ◌%◌, ◌≤◌, ◌<◌}
use mathlib.Core.Bool.{Bool, true, false, cond, ◌&&◌, ◌||◌}
use mathlib.Core.List.{List}
use mathlib.Core.Logic.{⊎_elim}
use mathlib.Core.Path.{◌≡◌, refl, ap, ◌∙◌}
use native.Mathlib.Nat.{eq-or-lt_of_le, le_of_suc-le-suc, mul-add-mod_self_right, mod-eq_of_lt}
use native.Mathlib.Omega.{arith}
use lib.Dec.{leb, ltb, eqb}
use lib.IntN.{nat_abs}
use lib.ListN.{length}
use borrow.Author.Tests.{lt-ltb, le-ltb, ne_eqb}
use Rattle.exact.proofs.Lending.{part_length}
use Rattle.exact.specs.Total.{total}
use Rattle.words.specs.Word.{word_at, signed_of}
use Rattle.words.specs.Bytes.{words_from}
use Rattle.limits.specs.declared.Limits.{Limits}
use Rattle.limits.specs.Ranges.{day_hours, most_deficiency, most_requirement, most_market_price, most_quantity, most_demand, most_hub_price, most_days}
use Rattle.limits.specs.Ranges.{largest_number, least_body_words, peak_word}
use Rattle.limits.specs.Editions.{edition_known}
use Rattle.calendar.specs.Date.{real_date}
use Rattle.verdict.specs.declared.Refusal.TheVariants.{BadEdition, BadDate, BadAreaCount, BadPeakHours, BadContents, BadBodyHead}
use Rattle.verdict.specs.declared.Refusal.TheVariants.{BadCoordinator, OutOfRange, RunningDemandTooLarge}
use Rattle.verdict.specs.declared.Refusal.{Refusal}
use Rattle.verdict.specs.Verdict.{refusal_number, refusal_place, number_of, place_of, Accepted, Verdict}
use Rattle.verdict.specs.First.{rule◌else◌then◌, ◌or_else◌}
use Rattle.verdict.proofs.First.{Holds, rule_holds, or_holds, scan_holds}
use Rattle.hour.specs.Layout.{missing, hour_words}
use Rattle.hour.specs.Check.{range_rule, pair_rule, demand_rule, deficiency_rule_at, deficiencies_rule, interval_rule_at, intervals_rule, demand_rule_at}
use Rattle.hour.specs.Check.{demands_rule, numbers_rule, hour_rule}
use Rattle.body.specs.Layout.{body_words, hour_start, kind_of, points_of, coordinators_of, coordinator_at, coordinator_before}
use Rattle.body.specs.Check.{most_of_kind, body_head_rule, coordinator_count_rule, body_head_of, front_rule, coordinator_rule_at, coordinators_rule}
use Rattle.body.specs.Check.{hour_rule_at, hours_rule, body_rule}
use Rattle.body.proofs.HourPlaces.{hour_room}
use Rattle.body.proofs.Rules.{front_size}
use Rattle.contents.specs.File.{areas_of, number_at, start_at, size_at, number_before, due_at, body_at}
use Rattle.dayfile.specs.Ciso.{ciso_before}
use Rattle.dayfile.specs.Check.{file_head_rule, file_head_of, entry_rule, entry_rule_at, contents_rule, body_rule_at, bodies_rule}
use Rattle.dayfile.proofs.Entries.{entry}
use Rattle.acceptance.specs.Numbers.{hour_number, count_number, body_number, head_number, number_from, number_due}

-- ---- a verdict whose refusal has the number that is due at its place

abbrev Numbered : (ℕ → ℕ) → Verdict → Type 0
Numbered due verdict = (number_of verdict ≡ 0 → ⊥) → due (place_of verdict) ≡ number_of verdict

module _ (due : ℕ → ℕ) where
  accepted : Holds (Numbered due) Accepted
  accepted = record { holds = λ r. absurd (r refl) }

  -- a word's rule with nothing behind it, and with the rest behind it
  one : (test : Bool) (refusal : Refusal) → due (refusal_place refusal) ≡ refusal_number refusal → Holds (Numbered due) (rule test else refusal then Accepted)
  one test refusal e = rule_holds (Numbered due) test refusal Accepted (λ _ _. e) (λ _. accepted)

  next : (test : Bool) (refusal : Refusal) (rest : Verdict) → due (refusal_place refusal) ≡ refusal_number refusal → Holds (Numbered due) rest
      → Holds (Numbered due) (rule test else refusal then rest)
  next test refusal rest e r = rule_holds (Numbered due) test refusal rest (λ _ _. e) (λ _. r)

  -- a word with two rules and two numbers
  two : (test more : Bool) (first second : Refusal) → refusal_place second ≡ refusal_place first
      → due (refusal_place first) ≡ cond test (refusal_number second) (refusal_number first)
      → Holds (Numbered due) (rule test else first then rule more else second then Accepted)
  two test more first second same e =
      rule_holds (Numbered due) test first _ (λ t _. e ∙ rw t)
      (λ t. one more second (ap due same ∙ e ∙ rw t))

  -- ---- the words of an hour

  range : (place most number : ℕ) → due place ≡ 9 → Holds (Numbered due) (range_rule place most number)
  range place most number e = one (leb number most) (OutOfRange place) e

  pair : (place after quantity price : ℕ) → due place ≡ 9 → due after ≡ 9 → Holds (Numbered due) (pair_rule place after quantity price)
  pair place after quantity price e f =
      next (leb quantity most_quantity) (OutOfRange place) _ e (one (missing price || leb (nat_abs (signed_of price)) most_market_price) (OutOfRange after) f)

  demand : (place before number : ℕ) → due place ≡ cond (leb number most_demand) 10 9 → Holds (Numbered due) (demand_rule place before number)
  demand place before number e = two (leb number most_demand) (leb (before + number) most_demand) (OutOfRange place) (RunningDemandTooLarge place) refl e

  module _ (start : ℕ) (body : List ℕ) (load count at : ℕ) (numbers : (i : ℕ) → i < 8 + 24 * load → due (start + (at + i)) ≡ 9)
      (demands : (i : ℕ) → i < count → due (start + (at + (8 + 24 * load + i))) ≡ cond (leb (word_at body (at + (8 + 24 * load + i))) most_demand) 10 9) where
    numbers-numbered : Holds (Numbered due) (numbers_rule start body at)
    unfolding numbers_rule deficiencies_rule deficiency_rule_at
    numbers-numbered =
        or_holds (Numbered due) _ _
        (scan_holds (Numbered due) accepted (deficiency_rule_at start body at) 6
        (λ i p. range (start + (at + i)) most_deficiency (word_at body (at + i)) (numbers i (omega arith))))
        (λ _. or_holds (Numbered due) _ _ (range (start + (at + 6)) most_requirement (word_at body (at + 6)) (numbers 6 (omega arith)))
        (λ _. range (start + (at + 7)) most_market_price (nat_abs (signed_of (word_at body (at + 7)))) (numbers 7 (omega arith))))

    interval-place : (i : ℕ) → i < 24 * load → due (start + (at + 8 + i)) ≡ 9
    interval-place i p =
        let e : at + 8 + i ≡ at + (8 + i) = omega arith in
        rw e (numbers (8 + i) (omega arith))

    intervals-numbered : Holds (Numbered due) (intervals_rule start body (at + 8) (12 * load))
    unfolding intervals_rule interval_rule_at
    intervals-numbered =
        scan_holds (Numbered due) accepted (interval_rule_at start body (at + 8)) (12 * load)
        (λ i p.
        let second : at + 8 + 2 * i + 1 ≡ at + 8 + (2 * i + 1) = omega arith in
        pair (start + (at + 8 + 2 * i)) (start + (at + 8 + 2 * i + 1)) (word_at body (at + 8 + 2 * i)) (word_at body (at + 8 + 2 * i + 1))
        (interval-place (2 * i) (omega arith)) (rw second (interval-place (2 * i + 1) (omega arith))))

    demands-numbered : Holds (Numbered due) (demands_rule start body (at + 8 + 24 * load) count)
    unfolding demands_rule demand_rule_at
    demands-numbered =
        scan_holds (Numbered due) accepted (demand_rule_at start body (at + 8 + 24 * load)) count
        (λ i p.
        let e : at + 8 + 24 * load + i ≡ at + (8 + 24 * load + i) = omega arith in
        demand (start + (at + 8 + 24 * load + i)) (total (words_from body (at + 8 + 24 * load) i)) (word_at body (at + 8 + 24 * load + i)) (rw e (demands i p)))

    hour-numbered : Holds (Numbered due) (hour_rule start body load count at)
    unfolding hour_rule
    hour-numbered =
        or_holds (Numbered due) _ _ numbers-numbered (λ _. or_holds (Numbered due) _ _ intervals-numbered (λ _. demands-numbered))

-- ---- the numbers of a body's words

module _ (body : List ℕ) where
  abbrev K : ℕ
  K = coordinators_of body

  head-number : (j : ℕ) → j < 6 → body_number body j ≡ 7
  unfolding body_number
  head-number j p = rw (lt-ltb j 6 p)

  count-number : body_number body 6 ≡ count_number body
  unfolding body_number
  count-number = refl

  -- behind the head
  module _ (j : ℕ) (behind : 7 ≤ j) where
    past_head : body_number body j ≡ cond (ltb j (7 + K)) 8
        (hour_number (points_of body) ((j - (7 + K)) % hour_words (points_of body) K) (word_at body j))
    unfolding body_number
    past_head = rw (le-ltb j 6 (omega arith), ne_eqb j 6 (λ e. omega arith))

  coordinator-number : (i : ℕ) → i < K → body_number body (7 + i) ≡ 8
  coordinator-number i p = past_head (7 + i) (omega arith) ∙ rw (lt-ltb (7 + i) (7 + K) (omega arith))

  -- word r of hour h
  module _ (h r : ℕ) (inside : r < hour_words (points_of body) K) where
    abbrev j : ℕ
    j = hour_start (points_of body) K h + r

    of-hour : (j - (7 + K)) % hour_words (points_of body) K ≡ r
    unfolding hour_start
    of-hour =
        let w = hour_words (points_of body) K in
        let e : 7 + K + h * w + r - (7 + K) ≡ h * w + r = omega arith in
        rw e (mul-add-mod_self_right h w r ∙ mod-eq_of_lt inside)

    behind-coordinators : 7 + K ≤ j
    unfolding hour_start
    behind-coordinators = omega arith

    word_number : body_number body j ≡ hour_number (points_of body) r (word_at body j)
    word_number =
        past_head j (omega (arith, behind-coordinators)) ∙ rw (le-ltb j (7 + K) behind-coordinators, of-hour)

-- ---- the words of a body that stands where the numbers that are due are its own

module _ (due : ℕ → ℕ) (start : ℕ) (body : List ℕ) (limits : Limits) (ciso : ℕ) (some : 7 ≤ length body / 4)
    (numbers : (j : ℕ) → j < length body / 4 → due (start + j) ≡ body_number body j) where
  head_at : (j : ℕ) → j < 6 → due (start + j) ≡ 7
  head_at j p = numbers j (omega arith) ∙ head-number body j p

  kind_at : due start ≡ 7
  kind_at = let e : start ≡ start + 0 = omega arith in ap due e ∙ head_at 0 (omega arith)

  head-numbered : (points kind flag days hubA hubB load : ℕ) → Holds (Numbered due) (body_head_rule points ciso start kind flag days hubA hubB load)
  unfolding body_head_rule
  head-numbered points kind flag days hubA hubB load =
      next due (leb kind 1) (BadBodyHead start) _ kind_at
      (next due (leb (ciso + kind) 1) (BadBodyHead start) _ kind_at
      (next due (leb flag 1) (BadBodyHead (start + 1)) _ (head_at 1 (omega arith))
      (next due (leb days most_days) (BadBodyHead (start + 2)) _ (head_at 2 (omega arith))
      (next due (leb hubA most_hub_price) (BadBodyHead (start + 3)) _ (head_at 3 (omega arith))
      (next due (leb hubB most_hub_price) (BadBodyHead (start + 4)) _ (head_at 4 (omega arith))
      (one due (leb 1 load && leb load points) (BadBodyHead (start + 5)) (head_at 5 (omega arith))))))))

  front-numbered : Holds (Numbered due) (front_rule start body limits.points ciso)
  unfolding front_rule body_head_of coordinator_count_rule
  front-numbered =
      or_holds (Numbered due) _ _ (head-numbered _ _ _ _ _ _ _)
      (λ _. two due (leb 1 (coordinators_of body) && leb (coordinators_of body) (most_of_kind (kind_of body)))
      (eqb (length body / 4) (body_words (points_of body) (coordinators_of body))) (BadBodyHead (start + 6)) (BadContents (start + 6)) refl
      (numbers 6 (omega arith) ∙ count-number body))

  module _ (size : length body / 4 ≡ body_words (points_of body) (coordinators_of body)) where
    coordinators-numbered : Holds (Numbered due) (coordinators_rule start body (coordinators_of body))
    unfolding coordinators_rule coordinator_rule_at
    coordinators-numbered =
        scan_holds (Numbered due) (accepted due) (coordinator_rule_at start body) (coordinators_of body)
        (λ i p.
        one due (ltb (coordinator_before body i) (coordinator_at body i) && leb (coordinator_at body i) largest_number) (BadCoordinator (start + (7 + i)))
        (numbers (7 + i) (omega arith) ∙ coordinator-number body i p))

    -- word r of hour h
    hour-word : (h r : ℕ) → h < day_hours → r < hour_words (points_of body) (coordinators_of body)
        → let j = hour_start (points_of body) (coordinators_of body) h + r in due (start + j) ≡ hour_number (points_of body) r (word_at body j)
    hour-word h r p q = numbers _ (omega (arith, hour_room (points_of body) (coordinators_of body) h p)) ∙ word_number body h r q

    hours-numbered : Holds (Numbered due) (hours_rule start body (points_of body) (coordinators_of body))
    unfolding hours_rule hour_rule_at
    hours-numbered =
        let front = 8 + 24 * points_of body in
        scan_holds (Numbered due) (accepted due) (hour_rule_at start body (points_of body) (coordinators_of body)) day_hours
        (λ h p.
        hour-numbered due start body (points_of body) (coordinators_of body) (hour_start (points_of body) (coordinators_of body) h)
        (λ i q. hour-word h i p (omega arith) ∙ rw (lt-ltb i front q))
        (λ i q. hour-word h (front + i) p (omega arith) ∙ rw (le-ltb (front + i) front (omega arith))))

  body-numbered : Holds (Numbered due) (body_rule start body limits ciso)
  unfolding body_rule
  body-numbered =
      or_holds (Numbered due) _ _ front-numbered
      (λ z.
      let size = front_size start body limits.points ciso z in
      or_holds (Numbered due) _ _ (coordinators-numbered size) (λ _. hours-numbered size))

-- ---- the words of a file

module _ (limits : Limits) (file : List ℕ) where
  abbrev n : ℕ
  n = areas_of file

  contents_number : (p : ℕ) → 4 ≤ p → p < 4 + 3 * n → number_due file p ≡ 6
  unfolding number_due
  contents_number p a b = rw (le-ltb p 4 a, lt-ltb p (4 + 3 * n) b)

  module _ (contents : number_of (contents_rule limits.words file n) ≡ 0) where
    first : 0 < n → start_at file 0 ≡ 4 + 3 * n
    unfolding due_at
    first p = (entry limits.words file n 0 contents p).here

    follows : (k : ℕ) → suc k < n → start_at file (suc k) ≡ start_at file k + size_at file k
    unfolding due_at
    follows k p = (entry limits.words file n (suc k) contents p).here

    ends-before : (i k : ℕ) → i < k → k < n → start_at file i + size_at file i ≤ start_at file k
    ends-before i zero p q = absurd (omega arith)
    ends-before i (suc k) p q =
        ⊎_elim (λ (e : i ≡ k). rw e (omega (arith, follows k q))) (λ (l : i < k). omega (arith, follows k q, ends-before i k l (omega arith)))
        (eq-or-lt_of_le (le_of_suc-le-suc p))

    behind-contents : (k : ℕ) → k < n → 4 + 3 * n ≤ start_at file k
    behind-contents zero p = omega (arith, first p)
    behind-contents (suc k) p = omega (arith, first (omega arith), ends-before 0 (suc k) (omega arith) p)

    module _ (k : ℕ) (below : k < n) where
      -- word j of body k
      module _ (j : ℕ) (inside : j < size_at file k) where
        abbrev p : ℕ
        p = start_at file k + j

        found : (m i : ℕ) → i + m ≡ n → i ≤ k → number_from file p i m ≡ body_number (body_at file k) j
        unfolding number_from
        found zero i e l = absurd (omega arith)
        found (suc m) i e l =
            let here : p - start_at file k ≡ j = omega arith in
            ⊎_elim
            (λ (q : i ≡ k). rw (q, lt-ltb p (start_at file k + size_at file k) (omega arith), here))
            (λ (q : i < k). rw (le-ltb p (start_at file i + size_at file i) (omega (arith, ends-before i k q below))) (found m (suc i) (omega arith) q))
            (eq-or-lt_of_le l)

        body-number : number_due file p ≡ body_number (body_at file k) j
        unfolding number_due
        body-number =
            let behind = behind-contents k below in
            rw (le-ltb p 4 (omega arith), le-ltb p (4 + 3 * n) (omega arith)) (found n 0 (omega arith) (omega arith))

      body-at-numbered : Holds (Numbered (number_due file)) (body_rule_at limits file k)
      unfolding body_rule_at
      body-at-numbered =
          let e = entry limits.words file n k contents below in
          let size : length (body_at file k) / 4 ≡ size_at file k =
          omega (arith, part_length file (4 * start_at file k) (4 * size_at file k) (omega (arith, e.inside))) in
          body-numbered (number_due file) (start_at file k) (body_at file k) limits (ciso_before file k) (omega (arith, size, e.least))
          (λ j q. body-number j (omega (arith, size)))

  head-of-numbered : (areas size edition day count peak : ℕ) → Holds (Numbered (number_due file)) (file_head_rule areas size edition day count peak)
  unfolding file_head_rule number_due
  head-of-numbered areas size edition day count peak =
      next (number_due file) (edition_known edition) BadEdition _ refl
      (next (number_due file) (real_date day) BadDate _ refl
      (next (number_due file) (leb 1 count && leb count areas && leb (4 + 3 * count) size) BadAreaCount _ refl
      (one (number_due file) (eqb peak 0 || eqb peak peak_word) BadPeakHours refl)))

  entry-numbered : (most size k before due number start words : ℕ) → k < n
      → Holds (Numbered (number_due file)) (entry_rule most size n k (4 + 3 * k) before due number start words)
  entry-numbered most size k before due number start words p =
      next (number_due file) (ltb before number && leb number largest_number) (BadContents (4 + 3 * k)) _
      (contents_number (4 + 3 * k) (omega arith) (omega arith))
      (next (number_due file) (eqb start due) (BadContents (4 + 3 * k + 1)) _ (contents_number (4 + 3 * k + 1) (omega arith) (omega arith))
      (one (number_due file)
      (leb least_body_words words && leb words most && cond (eqb (k + 1) n) (eqb (start + words) size) (leb (start + words) size))
      (BadContents (4 + 3 * k + 2)) (contents_number (4 + 3 * k + 2) (omega arith) (omega arith))))

  contents-numbered : Holds (Numbered (number_due file)) (contents_rule limits.words file n)
  unfolding contents_rule entry_rule_at
  contents-numbered =
      scan_holds (Numbered (number_due file)) (accepted (number_due file)) (entry_rule_at limits.words file n) n
      (λ k p. entry-numbered limits.words (length file / 4) k (number_before file k) (due_at file n k) (number_at file k) (start_at file k) (size_at file k) p)

  pub file_numbered : Holds (Numbered (number_due file))
      (file_head_of limits.areas file or_else contents_rule limits.words file n or_else bodies_rule limits file n)
  unfolding bodies_rule file_head_of
  file_numbered =
      or_holds _ _ _ (head-of-numbered _ _ _ _ _ _)
      (λ _. or_holds _ _ _ contents-numbered
      (λ z. scan_holds _ (accepted (number_due file)) (body_rule_at limits file) n (λ k p. body-at-numbered z k p)))

-- ---- no number is above 10

either_most : (t : Bool) (a b most : ℕ) → a ≤ most → b ≤ most → cond t a b ≤ most
either_most true a b most h k = h
either_most false a b most h k = k

head_most : (p : ℕ) → head_number p ≤ 10
head_most zero = omega arith
head_most (suc zero) = omega arith
head_most (suc (suc zero)) = omega arith
head_most (suc (suc (suc p))) = omega arith

hour_most : (points r word : ℕ) → hour_number points r word ≤ 10
hour_most points r word =
    either_most (ltb r (8 + 24 * points)) 9 _ 10 (omega arith) (either_most (leb word most_demand) 10 9 10 (omega arith) (omega arith))

body_most : (body : List ℕ) (j : ℕ) → body_number body j ≤ 10
unfolding body_number
body_most body j =
    either_most (ltb j 6) 7 _ 10 (omega arith)
    (either_most (eqb j 6) (count_number body) _ 10
    (either_most (leb 1 (coordinators_of body) && leb (coordinators_of body) (most_of_kind (kind_of body))) 6 7 10 (omega arith) (omega arith))
    (either_most (ltb j (7 + coordinators_of body)) 8 _ 10 (omega arith) (hour_most (points_of body) _ (word_at body j))))

from_most : (file : List ℕ) (p k m : ℕ) → number_from file p k m ≤ 10
unfolding number_from
from_most file p k zero = omega arith
from_most file p k (suc m) = either_most (ltb p (start_at file k + size_at file k)) _ _ 10 (body_most (body_at file k) _) (from_most file p (suc k) m)

pub due_most : (file : List ℕ) (p : ℕ) → number_due file p ≤ 10
unfolding number_due
due_most file p =
    either_most (ltb p 4) _ _ 10 (head_most p)
    (either_most (ltb p (4 + 3 * areas_of file)) 6 _ 10 (omega arith) (from_most file p 0 (areas_of file)))

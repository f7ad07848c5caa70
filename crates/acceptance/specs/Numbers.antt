-- The number of a refusal by what kind of word is refused, with no order of tests. Two kinds of word have two numbers: the word of K is 7 where it breaks
-- its own rule, and else 6, for the size; a demand is 9 where it is out of its own range, and else 10, for the running demand.
use Rattle.std.specs.Prelude.{ℕ, zero, suc, ◌+◌, ◌*◌, ◌-◌, ◌%◌, cond, ◌&&◌, List, eqb, leb, ltb}
use Rattle.words.specs.Word.{word_at}
use Rattle.limits.specs.Ranges.{most_demand}
use Rattle.hour.specs.Layout.{hour_words}
use Rattle.body.specs.Layout.{kind_of, points_of, coordinators_of}
use Rattle.body.specs.Check.{most_of_kind}
use Rattle.contents.specs.File.{areas_of, start_at, size_at, body_at}

-- word r of an hour with L load points: eight numbers and 24L interval words, then the demands
abbrev pub hour_number : (points r word : ℕ) → ℕ
hour_number points r word = cond (ltb r (8 + 24 * points)) 9 (cond (leb word most_demand) 10 9)

module _ (body : List ℕ) where
  -- the word of K
  abbrev pub count_number : ℕ
  count_number = cond (leb 1 (coordinators_of body) && leb (coordinators_of body) (most_of_kind (kind_of body))) 6 7

  -- word j of a body: the head, K, the coordinator numbers, the hours
  unfoldable pub body_number : ℕ → ℕ
  body_number j =
      cond (ltb j 6) 7
      (cond (eqb j 6) count_number
      (cond (ltb j (7 + coordinators_of body)) 8
      (hour_number (points_of body) ((j - (7 + coordinators_of body)) % hour_words (points_of body) (coordinators_of body)) (word_at body j))))

-- the head of a file: edition, trading day, number of areas, peak hours
abbrev pub head_number : ℕ → ℕ
head_number zero = 2
head_number (suc zero) = 4
head_number (suc (suc zero)) = 3
head_number (suc (suc (suc p))) = 5

module _ (file : List ℕ) (p : ℕ) where
  -- word p in the first of m bodies from body k on that ends behind it
  unfoldable pub number_from : (k m : ℕ) → ℕ
  number_from k zero = 0
  number_from k (suc m) = cond (ltb p (start_at file k + size_at file k)) (body_number (body_at file k) (p - start_at file k)) (number_from (suc k) m)

  -- word p of a file: the head, the contents, the bodies
  unfoldable pub number_due : ℕ
  number_due = cond (ltb p 4) (head_number p) (cond (ltb p (4 + 3 * areas_of file)) 6 (number_from 0 (areas_of file)))

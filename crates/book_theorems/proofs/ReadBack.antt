-- The days of a book are read back, whatever stands behind it.
use Prim.Native.Nat.{ℕ, suc, ◌+◌, ◌*◌, ◌≤◌, ◌<◌}
use mathlib.Core.Path.{◌≡◌, refl, sym, ap, ap₂, ◌∙◌}
use mathlib.Core.List.{List, [], ◌∷◌, ◌++◌, append_assoc}
use mathlib.Core.Logic.{dite}
use native.Mathlib.Nat.{add-zero}
use native.Mathlib.Decide.{dec_lt}
use native.Mathlib.Omega.{arith}
use lib.ListN.{length, length-append}
use lib.Seq.{take_at, drop_at}
use Rattle.words.specs.Word.{word_at}
use Rattle.words.specs.Bytes.{word_bytes}
use Rattle.words.proofs.Words.{word_long, word_there}
use Rattle.moving.specs.Written.{part}
use Rattle.book.specs.Days.{Day, words_of, entry_bytes, contents_of, files_of, book_bytes}
use Rattle.book.specs.Read.{count_of, date_at, start_at, size_at, due_at, day_at, days_from, days_of}
use Rattle.book.specs.Check.{most_book_days, least_day_words}
use Rattle.book.specs.Sound.{Sound}
use Rattle.book.proofs.Lengths.{entry_long, contents_long}
use Rattle.book_theorems.proofs.Good.{KeptDays, GoodDays}

module _ (room pre : List ℕ) (date start size : ℕ) (post : List ℕ) (k : ℕ) (stands : room ≡ pre ++ (entry_bytes date start size ++ post))
    (at : length pre ≡ 8 + 12 * k) where
  pub date_there : date < 4294967296 → date_at room k ≡ date
  unfolding entry_bytes
  date_there h = word_there room pre date (word_bytes start ++ (word_bytes size ++ post)) (2 + 3 * k) (stands ∙ simp append_assoc) (omega arith) h

  pub start_there : start < 4294967296 → start_at room k ≡ start
  unfolding entry_bytes
  start_there h =
      word_there room (pre ++ word_bytes date) start (word_bytes size ++ post) (2 + 3 * k + 1) (stands ∙ simp append_assoc)
      (rw (length-append, word_long date) (omega arith)) h

  pub size_there : size < 4294967296 → size_at room k ≡ size
  unfolding entry_bytes
  size_there h =
      word_there room (pre ++ (word_bytes date ++ word_bytes start)) size post (2 + 3 * k + 2) (stands ∙ simp append_assoc)
      (simp (length-append, word_long) (omega arith)) h

-- ---- the days of a book are read back

day_there : (room : List ℕ) (k date start size : ℕ) (file : List ℕ) → date_at room k ≡ date → start_at room k ≡ start → size_at room k ≡ size
    → part room (4 * start) (4 * size) ≡ file → day_at room k ≡ record { date = date; file = file }
unfolding day_at
day_there room k date start size file d s z f = rw (d, s, z, f)

file_there : (room pre file post : List ℕ) (from n : ℕ) → room ≡ pre ++ (file ++ post) → length pre ≡ from → length file ≡ n → part room from n ≡ file
file_there room pre file post from n e f g = rw (e, drop_at pre (file ++ post) from f) (take_at file post n g)

module _ (room : List ℕ) where
  pub days_there : (days : List Day) (k start : ℕ) (pre post front rest : List ℕ) → room ≡ pre ++ (contents_of start days ++ post) → length pre ≡ 8 + 12 * k
      → room ≡ front ++ (files_of days ++ rest) → length front ≡ 4 * start → GoodDays start days → days_from room k (length days) ≡ days
  unfolding contents_of files_of days_from
  days_there [] k start pre post front rest e l f m g = refl
  days_there (day ∷ days) k start pre post front rest e l f m g =
      let entry = entry_bytes day.date start (words_of day) in
      let behindIt = contents_of (start + words_of day) days ++ post in
      let e' : room ≡ pre ++ (entry ++ behindIt) = e ∙ ap (λ x. pre ++ x) (append_assoc entry (contents_of (start + words_of day) days) post) in
      let f' : room ≡ front ++ (day.file ++ (files_of days ++ rest)) = f ∙ ap (λ x. front ++ x) (append_assoc day.file (files_of days) rest) in
      let head : day_at room k ≡ day =
      day_there room k day.date start (words_of day) day.file
      (date_there room pre day.date start (words_of day) behindIt k e' l g.0.dated)
      (start_there room pre day.date start (words_of day) behindIt k e' l g.0.placed)
      (size_there room pre day.date start (words_of day) behindIt k e' l g.0.sized)
      (file_there room front day.file (files_of days ++ rest) (4 * start) (4 * words_of day) f' m g.0.whole) in
      ap₂ ◌∷◌ head
      (days_there days (suc k) (start + words_of day) (pre ++ entry) post (front ++ day.file) rest
      (e' ∙ sym (append_assoc pre entry behindIt)) (rw (length-append, entry_long day.date start (words_of day)) (omega arith))
      (f' ∙ sym (append_assoc front day.file (files_of days ++ rest))) (rw length-append (omega (arith, g.0.whole))) g.1)

  -- each file has the words that its entry says
  pub long_there : (days : List Day) (k start before : ℕ) (pre post : List ℕ) → room ≡ pre ++ (contents_of start days ++ post) → length pre ≡ 8 + 12 * k
      → GoodDays start days → KeptDays before days → (j : ℕ) → k ≤ j → j < k + length days → least_day_words ≤ size_at room j
  unfolding contents_of
  long_there [] k start before pre post e l g b j q r = absurd (omega arith)
  long_there (day ∷ days) k start before pre post e l g b j q r =
      let entry = entry_bytes day.date start (words_of day) in
      let behindIt = contents_of (start + words_of day) days ++ post in
      let e' : room ≡ pre ++ (entry ++ behindIt) = e ∙ ap (λ x. pre ++ x) (append_assoc entry (contents_of (start + words_of day) days) post) in
      let size : size_at room k ≡ words_of day = size_there room pre day.date start (words_of day) behindIt k e' l g.0.sized in
      dite (dec_lt k j)
      (λ y. long_there days (suc k) (start + words_of day) day.date (pre ++ entry) post (e' ∙ sym (append_assoc pre entry behindIt))
      (rw (length-append, entry_long day.date start (words_of day)) (omega arith)) g.1 b.1 j y (omega arith))
      (λ y. let z : j ≡ k = omega (arith, y) in rw z (omega (arith, size, b.0.long)))

  -- each file starts where it is due, and the last ends where the files end
  pub due_there : (days : List Day) (k start : ℕ) (pre post : List ℕ) → room ≡ pre ++ (contents_of start days ++ post) → length pre ≡ 8 + 12 * k
      → due_at room k ≡ start
      → GoodDays start days
      → ((j : ℕ) → k ≤ j → j < k + length days → start_at room j ≡ due_at room j) × (4 * due_at room (k + length days) ≡ 4 * start + length (files_of days))
  unfolding contents_of files_of due_at
  due_there [] k start pre post e l d g = (λ j q r. absurd (omega arith), rw add-zero (omega arith))
  due_there (day ∷ days) k start pre post e l d g =
      let entry = entry_bytes day.date start (words_of day) in
      let behindIt = contents_of (start + words_of day) days ++ post in
      let e' : room ≡ pre ++ (entry ++ behindIt) = e ∙ ap (λ x. pre ++ x) (append_assoc entry (contents_of (start + words_of day) days) post) in
      let here : start_at room k ≡ start = start_there room pre day.date start (words_of day) behindIt k e' l g.0.placed in
      let size : size_at room k ≡ words_of day = size_there room pre day.date start (words_of day) behindIt k e' l g.0.sized in
      let more = due_there days (suc k) (start + words_of day) (pre ++ entry) post (e' ∙ sym (append_assoc pre entry behindIt))
      (rw (length-append, entry_long day.date start (words_of day)) (omega arith)) (omega (arith, d, size)) g.1 in
      let s : suc k + length days ≡ k + suc (length days) = omega arith in (
        λ j q r. dite (dec_lt k j) (λ y. more.0 j y (omega arith)) (λ y. let z : j ≡ k = omega (arith, y) in rw z (here ∙ sym d)),
        rw (← s, more.1, length-append day.file (files_of days)) (omega (arith, g.0.whole)),
      )

-- "A book of good days is sound, and its days are those days", whatever stands behind it
module _ (room rest : List ℕ) (days : List Day) (stands : room ≡ book_bytes days ++ rest) (few : length days ≤ most_book_days)
    (good : GoodDays (2 + 3 * length days) days) (kept : KeptDays 0 days) where
  abbrev contents : List ℕ
  contents = contents_of (2 + 3 * length days) days

  by-contents : room ≡ (word_bytes 1 ++ word_bytes (length days)) ++ (contents ++ (files_of days ++ rest))
  unfolding book_bytes
  by-contents = stands ∙ simp append_assoc

  by-files : room ≡ (word_bytes 1 ++ word_bytes (length days) ++ contents) ++ (files_of days ++ rest)
  unfolding book_bytes
  by-files = stands ∙ simp append_assoc

  pub count_again : count_of room ≡ length days
  unfolding book_bytes
  count_again = word_there room (word_bytes 1) (length days) (contents ++ (files_of days ++ rest)) 1 (stands ∙ simp append_assoc) (word_long 1) (omega arith)

  pub first_again : word_at room 0 ≡ 1
  unfolding book_bytes
  first_again =
      word_there room [] 1 (word_bytes (length days) ++ (contents ++ (files_of days ++ rest))) 0 (stands ∙ simp append_assoc) refl (omega arith)

  head-long : length (word_bytes 1 ++ word_bytes (length days)) ≡ 8 + 12 * 0
  head-long = rw (length-append, word_long 1, word_long (length days))

  front_long : length (word_bytes 1 ++ word_bytes (length days) ++ contents) ≡ 4 * (2 + 3 * length days)
  front_long = rw (length-append (word_bytes 1 ++ word_bytes (length days)) contents, head-long, contents_long (2 + 3 * length days) days) (omega arith)

  first : due_at room 0 ≡ 2 + 3 * length days
  unfolding due_at
  first = rw count_again

  pub days_again : days_of room ≡ days
  days_again =
      ap (days_from room 0) count_again
      ∙ days_there room days 0 (2 + 3 * length days) (word_bytes 1 ++ word_bytes (length days)) (files_of days ++ rest)
      (word_bytes 1 ++ word_bytes (length days) ++ contents) rest by-contents head-long by-files front_long good

  pub sound_again : Sound room
  sound_again =
      let due = due_there room days 0 (2 + 3 * length days) (word_bytes 1 ++ word_bytes (length days)) (files_of days ++ rest) by-contents head-long first good in
      let long : length room ≡ 4 * (2 + 3 * length days) + (length (files_of days) + length rest) =
      ap length by-files ∙ length-append (word_bytes 1 ++ word_bytes (length days) ++ contents) (files_of days ++ rest) ∙ ap₂ ◌+◌ front_long
      (length-append (files_of days) rest) in
      let n = count_again in
      let z : 0 + length days ≡ count_of room = omega arith in
      record {
        few = omega arith;
        whole = omega arith;
        long = λ k h. long_there room days 0 (2 + 3 * length days) 0 (word_bytes 1 ++ word_bytes (length days)) (files_of days ++ rest) by-contents head-long good
            kept k (omega arith) (omega arith);
        due = λ k h. due.0 k (omega arith) (omega arith);
        inside = omega (arith, rw z at due.1);
      }

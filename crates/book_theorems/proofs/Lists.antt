-- A day more and a day less in a list of days: its dates, its length, its files.
use Prim.Native.Nat.{ℕ, suc, ◌+◌, ◌≤◌, ◌<◌}
use mathlib.Core.Bool.{Bool, true, false, cond, ◌||◌, true≢false}
use mathlib.Core.Path.{◌≡◌, refl, sym, ap, ◌∙◌}
use mathlib.Core.List.{List, [], ◌∷◌}
use mathlib.Core.Logic.{dite}
use native.Mathlib.Decide.{dec_lt, ℕ_discrete}
use native.Mathlib.Omega.{arith}
use borrow.Author.Tests.{lt-ltb, le-ltb, eq-eqb, ne_eqb}
use lib.Dec.{eqb, ltb}
use lib.ListN.{length, length-append}
use Rattle.book.specs.Days.{Day, words_of, files_of}
use Rattle.keeping.specs.Keeping.{is_there, insert_day, remove_day}
use Rattle.book_theorems.proofs.Good.{KeptDay, KeptDays, GoodDays}

-- ---- a step of each definition

module _ (day first : Day) (days : List Day) where
  insert-behind : first.date < day.date → insert_day day (first ∷ days) ≡ first ∷ insert_day day days
  unfolding insert_day
  insert-behind h = rw (lt-ltb first.date day.date h)

  insert-before : day.date ≤ first.date → insert_day day (first ∷ days) ≡ day ∷ first ∷ days
  unfolding insert_day
  insert-before h = rw (le-ltb first.date day.date h)

module _ (date : ℕ) (first : Day) (days : List Day) where
  remove-here : first.date ≡ date → remove_day date (first ∷ days) ≡ days
  unfolding remove_day
  remove-here e = rw (eq-eqb first.date date e)

  remove-behind : (first.date ≡ date → ⊥) → remove_day date (first ∷ days) ≡ first ∷ remove_day date days
  unfolding remove_day
  remove-behind n = rw (ne_eqb first.date date n)

  there-here : first.date ≡ date → is_there date (first ∷ days) ≡ true
  unfolding is_there
  there-here e = rw (eq-eqb first.date date e)

  there-behind : (first.date ≡ date → ⊥) → is_there date (first ∷ days) ≡ is_there date days
  unfolding is_there
  there-behind n = rw (ne_eqb first.date date n)

  -- a date that is absent is not the first one, and not behind it
  absent-first : is_there date (first ∷ days) ≡ false → (first.date ≡ date → ⊥) × (is_there date days ≡ false)
  absent-first a = dite (ℕ_discrete first.date date) (λ e. absurd (true≢false (sym (there-here e) ∙ a))) (λ n. (n, sym (there-behind n) ∙ a))

-- ---- a day more

-- by where the day stands against the first one
either : (P : Type 0) (day first : Day) → (first.date < day.date → P) → (day.date ≤ first.date → P) → P
either P day first p q = dite (dec_lt first.date day.date) p (λ n. q (omega (arith, n)))

there_inserted : (date : ℕ) (day : Day) (days : List Day) → is_there date (insert_day day days) ≡ (eqb day.date date || is_there date days)
unfolding insert_day is_there
there_inserted date day [] = refl
there_inserted date day (first ∷ days) = pick (ltb first.date day.date) (there_inserted date day days)
  where
    swapped : (a b c : Bool) → (a || (b || c)) ≡ (b || (a || c))
    swapped true true c = refl
    swapped true false c = refl
    swapped false true c = refl
    swapped false false c = refl

    pick : (b : Bool) → is_there date (insert_day day days) ≡ (eqb day.date date || is_there date days)
        → is_there date (cond b (first ∷ insert_day day days) (day ∷ first ∷ days)) ≡ (eqb day.date date || (eqb first.date date || is_there date days))
    pick true h = rw h (swapped (eqb first.date date) (eqb day.date date) (is_there date days))
    pick false h = refl

pub still_absent : (date : ℕ) (day : Day) (days : List Day) → (day.date ≡ date → ⊥) → is_there date (insert_day day days) ≡ is_there date days
still_absent date day days n = there_inserted date day days ∙ rw (ne_eqb day.date date n)

pub there_now : (day : Day) (days : List Day) → is_there day.date (insert_day day days) ≡ true
there_now day days = there_inserted day.date day days ∙ rw (eq-eqb day.date day.date refl)

files_long : (day : Day) (days : List Day) → length (files_of (day ∷ days)) ≡ length day.file + length (files_of days)
unfolding files_of
files_long day days = length-append day.file (files_of days)

insert_none : (day : Day) → insert_day day [] ≡ day ∷ []
unfolding insert_day
insert_none day = refl

module _ (day : Day) where
  pub inserted_count : (days : List Day) → length (insert_day day days) ≡ suc (length days)
  inserted_count [] = rw (insert_none day)
  inserted_count (first ∷ days) =
      either _ day first
      (λ h. rw (insert-behind day first days h) (ap suc (inserted_count days)))
      (λ h. rw (insert-before day first days h))

  pub inserted_files : (days : List Day) → length (files_of (insert_day day days)) ≡ length day.file + length (files_of days)
  inserted_files [] = rw (insert_none day) (files_long day [])
  inserted_files (first ∷ days) =
      either _ day first
      (λ h. rw (insert-behind day first days h) (omega (arith, files_long first (insert_day day days), files_long first days, inserted_files days)))
      (λ h. rw (insert-before day first days h) (files_long day (first ∷ days)))

  pub inserted_kept : (before : ℕ) (days : List Day) → KeptDay before day → is_there day.date days ≡ false → KeptDays before days
      → KeptDays before (insert_day day days)
  inserted_kept before [] new absent kept = rw (insert_none day) (new, tt)
  inserted_kept before (first ∷ days) new absent kept =
      let other = absent-first day.date first days absent in
      either _ day first
      (λ h. rw (insert-behind day first days h) (
        kept.0,
        inserted_kept first.date days (record { real = new.real; above = h; long = new.long; whole = new.whole; dated = new.dated }) other.1
            kept.1,
      ))
      (λ h. let f = kept.0 in let below : day.date < first.date = omega (arith, h, other.0) in
      rw (insert-before day first days h)
      (new, (record { real = f.real; above = below; long = f.long; whole = f.whole; dated = f.dated }, kept.1)))

  -- the day is withdrawn again
  pub removed_again : (days : List Day) → is_there day.date days ≡ false → remove_day day.date (insert_day day days) ≡ days
  removed_again [] absent = rw (insert_none day) (remove-here day.date day [] refl)
  removed_again (first ∷ days) absent =
      let other = absent-first day.date first days absent in
      either _ day first
      (λ h. rw (insert-behind day first days h, remove-behind day.date first (insert_day day days) other.0, removed_again days other.1))
      (λ h. rw (insert-before day first days h, remove-here day.date day (first ∷ days) refl))

-- two days of different dates, in either order
pub inserted_both : (day other : Day) (days : List Day) → (day.date ≡ other.date → ⊥)
    → insert_day day (insert_day other days) ≡ insert_day other (insert_day day days)
inserted_both day other [] n =
    either _ day other
    (λ h. rw (insert_none other, insert_none day, insert-behind day other [] h, insert-before other day [] (omega arith), insert_none day))
    (λ h. rw (insert_none other, insert_none day, insert-before day other [] h, insert-behind other day [] (omega (arith, h, n)), insert_none other))
inserted_both day other (first ∷ days) n =
    either _ day first
    (λ h. either _ other first
    (λ k. rw (
      insert-behind other first days k,
      insert-behind day first days h,
      insert-behind day first (insert_day other days) h,
      insert-behind other first
          (insert_day day days) k,
      inserted_both day other days n,
    ))
    (λ k. rw (
      insert-before other first days k,
      insert-behind day first days h,
      insert-behind day other (first ∷ days) (omega arith),
      insert-before other first
          (insert_day day days) k,
      insert-behind day first days h,
    )))
    (λ h. either _ other first
    (λ k. rw (
      insert-behind other first days k,
      insert-before day first days h,
      insert-before day first (insert_day other days) h,
      insert-behind other day
          (first ∷ days) (omega arith),
      insert-behind other first days k,
    ))
    (λ k. either _ day other
    (λ l. rw (
      insert-before other first days k,
      insert-before day first days h,
      insert-behind day other (first ∷ days) l,
      insert-before other day (first ∷ days)
          (omega arith),
      insert-before day first days h,
    ))
    (λ l. rw (
      insert-before other first days k,
      insert-before day first days h,
      insert-before day other (first ∷ days) l,
      insert-behind other day (first ∷ days)
          (omega (arith, l, n)),
      insert-before other first days k,
    ))))

-- ---- a day less

-- behind an earlier date
kept_behind : (low before : ℕ) (days : List Day) → low ≤ before → KeptDays before days → KeptDays low days
kept_behind low before [] h kept = tt
kept_behind low before (day ∷ days) h kept =
    let d = kept.0 in
    (record { real = d.real; above = omega (arith, d.above); long = d.long; whole = d.whole; dated = d.dated }, kept.1)

-- from an earlier word on
good_earlier : (low start : ℕ) (days : List Day) → low ≤ start → GoodDays start days → GoodDays low days
good_earlier low start [] h good = tt
good_earlier low start (day ∷ days) h good =
    let d = good.0 in (
      record { dated = d.dated; placed = omega (arith, d.placed); sized = d.sized; whole = d.whole },
      good_earlier (low + words_of day) (start + words_of day) days (omega arith) good.1,
    )

module _ (date : ℕ) where
  -- by whether the first is the one
  whether : (P : Type 0) (first : Day) → (first.date ≡ date → P) → ((first.date ≡ date → ⊥) → P) → P
  whether P first p q = dite (ℕ_discrete first.date date) p q

  remove-none : remove_day date [] ≡ []
  unfolding remove_day
  remove-none = refl

  pub removed_kept : (before : ℕ) (days : List Day) → KeptDays before days → KeptDays before (remove_day date days)
  unfolding remove_day
  removed_kept before [] kept = tt
  removed_kept before (first ∷ days) kept =
      whether _ first
      (λ e. rw (eq-eqb first.date date e) (kept_behind before first.date days (omega (arith, kept.0.above)) kept.1))
      (λ n. rw (ne_eqb first.date date n) (kept.0, removed_kept first.date days kept.1))

  pub removed_good : (low start : ℕ) (days : List Day) → low ≤ start → GoodDays start days → GoodDays low (remove_day date days)
  unfolding remove_day
  removed_good low start [] h good = tt
  removed_good low start (first ∷ days) h good =
      let d = good.0 in
      whether _ first
      (λ e. rw (eq-eqb first.date date e) (good_earlier low (start + words_of first) days (omega arith) good.1))
      (λ n. rw (ne_eqb first.date date n) (
        record { dated = d.dated; placed = omega (arith, d.placed); sized = d.sized; whole = d.whole },
        removed_good (low + words_of first) (start + words_of first) days (omega arith) good.1,
      ))

  pub removed_count : (days : List Day) → is_there date days ≡ true → suc (length (remove_day date days)) ≡ length days
  unfolding is_there
  removed_count [] there = absurd (true≢false (sym there))
  removed_count (first ∷ days) there =
      whether _ first
      (λ e. rw (remove-here date first days e))
      (λ n. rw (remove-behind date first days n) (ap suc (removed_count days (sym (there-behind date first days n) ∙ there))))

  pub removed_files : (days : List Day) → length (files_of (remove_day date days)) ≤ length (files_of days)
  removed_files [] = rw remove-none (omega arith)
  removed_files (first ∷ days) =
      whether _ first
      (λ e. rw (remove-here date first days e) (omega (arith, files_long first days)))
      (λ n. rw (remove-behind date first days n) (omega (arith, files_long first (remove_day date days), files_long first days, removed_files days)))

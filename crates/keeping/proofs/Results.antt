-- The room that each call leaves, from what it wrote.
use Prim.Native.Nat.{ℕ, ◌<◌}
use mathlib.Core.Path.{◌≡◌, refl, sym, ap}
use mathlib.Core.List.{List}
use borrow.Author.Tests.{ne_eqb}
use Rattle.verdict.specs.Verdict.{Accepted}
use Rattle.std.specs.Prelude.{Err}
use Rattle.verdict.specs.declared.Refusal.{Refusal}
use Rattle.verdict.proofs.First.{in_order}
use Rattle.verdict.proofs.Accepted.{no_refusal_is_zero}
use Rattle.contents.specs.File.{day_of}
use Rattle.book.specs.Days.{book_of}
use Rattle.book.specs.Read.{count_of}
use Rattle.keeping_moves.specs.Moves.{day_of_file, emptied}
use Rattle.keeping.specs.Keeping.{add_rule, with_day, withdraw_rule, without_day}
use Rattle.keeping_moves.specs.Moves.{added_at, without_at}
use Rattle.keeping_places.specs.Place.{before_first, not_earlier}
use Rattle.book.proofs.Kept.{sound_book}
use Rattle.keeping_places.proofs.Scan.{scan_within}
use Rattle.keeping.proofs.Placed.{added_inserted, without_removed}
use Rattle.keeping.proofs.Rules.{missed, is_there_lem, is_absent}

module _ (room file : List ℕ) where
  pub not_added : (refusal : Refusal) → add_rule room file ≡ Err refusal → with_day room file ≡ room
  unfolding with_day
  not_added refusal refused = rw (refused, ne_eqb _ _ (no_refusal_is_zero refusal))

  -- the place of its date
  abbrev pub new_place : ℕ
  new_place = before_first room (not_earlier (day_of file)) 0 (count_of room)

  pub day_added : add_rule room file ≡ Accepted
      → with_day room file ≡ book_of (added_at room new_place (day_of_file file)) room
  unfolding with_day
  day_added accepted =
      rw accepted (ap (λ days. book_of days room) (sym (added_inserted room (day_of_file file) new_place refl)))

module _ (room : List ℕ) (date : ℕ) where
  pub nothing_withdrawn : (refusal : Refusal) → withdraw_rule room date ≡ Err refusal → without_day room date ≡ room
  unfolding without_day
  nothing_withdrawn refusal refused = rw (refused, ne_eqb _ _ (no_refusal_is_zero refusal))

  pub day_withdrawn : withdraw_rule room date ≡ Accepted → missed room date < count_of room
      → without_day room date ≡ book_of (without_at room (missed room date)) (emptied room)
  unfolding without_day
  day_withdrawn accepted h =
      let removed = without_removed room date (missed room date) refl h in
      rw accepted (ap (λ days. book_of days (emptied room)) (sym removed))

-- what withdrawing follows from: its rule in order, and what the scan of a sound book found
pub ruleset withdrawing = (in_order, sound_book, scan_within, is_there_lem, is_absent, nothing_withdrawn, day_withdrawn)

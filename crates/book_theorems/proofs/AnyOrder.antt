-- Adding days in any order gives the same book.
use Prim.Native.Nat.{ℕ, ◌+◌, ◌*◌}
use mathlib.Core.Bool.{false, true≢false}
use mathlib.Core.Path.{◌≡◌, refl, sym, ap, ◌∙◌}
use mathlib.Core.List.{List, [], ◌∷◌, ◌++◌}
use native.Mathlib.Omega.{arith}
use lib.ListN.{length}
use Rattle.verdict.specs.Verdict.{number_of}
use Rattle.contents.specs.File.{day_of}
use Rattle.book.specs.Days.{book_bytes, book_of}
use Rattle.book.specs.Read.{end_of, days_of}
use Rattle.keeping_moves.specs.Moves.{day_of_file}
use Rattle.keeping.specs.Keeping.{is_there, insert_day, add_rule, with_day}
use Rattle.keeping.proofs.Rules.{add_accepts, add_book, add_file, add_taken}
use Rattle.book_theorems.specs.Order.{added_all, AllAccepted, Reordered, SameBook}
use Rattle.book_theorems.proofs.Lists.{still_absent, there_now, inserted_both}
use Rattle.book_theorems.proofs.Ends.{book_over}
use Rattle.book_theorems.proofs.AddedDay.{new_long, new_fits, after_is, new_days, new_book, new_end, counted, room_long}

one_more : (file : List ℕ) (files : List (List ℕ)) (room : List ℕ) → added_all (file ∷ files) room ≡ added_all files (with_day room file)
unfolding added_all
one_more file files room = refl

-- ---- two files

module _ (room a b : List ℕ) (first : number_of (add_rule room a) ≡ 0) (second : number_of (add_rule (with_day room a) b) ≡ 0) where
  absent-then : is_there (day_of b) (insert_day (day_of_file a) (days_of room)) ≡ false
  absent-then = sym (ap (is_there (day_of b)) (new_days room a first)) ∙ (add_taken (with_day room a) b second).absent

  differ : day_of a ≡ day_of b → ⊥
  differ e = true≢false (sym (there_now (day_of_file a) (days_of room)) ∙ ap (λ date. is_there date (insert_day (day_of_file a) (days_of room))) e ∙ absent-then)

  pub other_first : number_of (add_rule room b) ≡ 0
  other_first =
      let t = add_taken (with_day room a) b second in
      let end = new_end room a first in
      let count = counted room a first in
      let long = room_long room a first in
      add_accepts room b (add_book room a first) (add_file (with_day room a) b second)
      (record {
        absent = sym (still_absent (day_of b) (day_of_file a) (days_of room) differ) ∙ absent-then;
        few = omega (arith, t.few);
        fits = omega (arith, t.fits);
        named = omega (arith, t.named);
      })

  pub then_first : number_of (add_rule (with_day room b) a) ≡ 0
  then_first =
      let t = add_taken (with_day room a) b second in
      let end = new_end room a first in
      let end' = new_end room b other_first in
      let count = counted room a first in
      let count' = counted room b other_first in
      let long = room_long room a first in
      let long' = room_long room b other_first in
      add_accepts (with_day room b) a (new_book room b other_first) (add_file room a first)
      (record {
        absent =
            ap (is_there (day_of a)) (new_days room b other_first)
            ∙ still_absent (day_of a) (day_of_file b) (days_of room) (λ e. differ (sym e))
            ∙ (add_taken room a first).absent;
        few = omega (arith, t.few);
        fits = omega (arith, t.fits);
        named = omega (arith, t.named);
      })

-- the room once two are added
two_added : (room a b : List ℕ) (first : number_of (add_rule room a) ≡ 0) → number_of (add_rule (with_day room a) b) ≡ 0
    → with_day (with_day room a) b ≡ book_of (insert_day (day_of_file b) (insert_day (day_of_file a) (days_of room))) room
two_added room a b first second =
    let long : length (book_bytes (insert_day (day_of_file b) (insert_day (day_of_file a) (days_of room)))) ≡ 4 * end_of (with_day room a) + 12 + length b =
    rw (new_days room a first) at (new_long (with_day room a) b second) in
    after_is (with_day room a) b second
    ∙ rw (new_days room a first, after_is room a first)
    (book_over (insert_day (day_of_file b) (insert_day (day_of_file a) (days_of room))) (insert_day (day_of_file a) (days_of room)) room (new_fits room a first)
    (omega (arith, long, new_end room a first, new_long room a first)))

either_first : (room a b : List ℕ) (first : number_of (add_rule room a) ≡ 0) (second : number_of (add_rule (with_day room a) b) ≡ 0)
    → with_day (with_day room a) b ≡ with_day (with_day room b) a
either_first room a b first second =
    two_added room a b first second
    ∙ ap (λ days. book_of days room) (inserted_both (day_of_file b) (day_of_file a) (days_of room) (λ e. differ room a b first second (sym e)))
    ∙ sym (two_added room b a (other_first room a b first second) (then_first room a b first second))

-- ---- any number of them

-- one of them later
later : (front behind : List (List ℕ)) (file room : List ℕ) → AllAccepted (file ∷ (front ++ behind)) room
    → SameBook (file ∷ (front ++ behind)) (front ++ (file ∷ behind)) room
later [] behind file room ok = record { accepted = ok; same = refl }
later (x ∷ front) behind file room ok =
    let swap = either_first room file x ok.0 ok.1.0 in
    let rest = later front behind file (with_day room x) (then_first room file x ok.0 ok.1.0, rw swap at ok.1.1) in
    record {
      accepted = (other_first room file x ok.0 ok.1.0, rest.accepted);
      same = one_more x (front ++ (file ∷ behind)) room ∙ rest.same ∙ one_more file (front ++ behind) (with_day room x)
          ∙ ap (added_all (front ++ behind)) (sym swap) ∙ sym (one_more file (x ∷ (front ++ behind)) room ∙ one_more x (front ++ behind) (with_day room file));
    }

pub any_order : (files files' : List (List ℕ)) (room : List ℕ) → Reordered files files' → AllAccepted files room → SameBook files files' room
unfolding Reordered
any_order [] files' room p ok = rw p (record { accepted = tt; same = refl })
any_order (file ∷ files) files' room p ok =
    let s = p.there in
    let rest = any_order files p.others (with_day room file) p.rest ok.1 in
    let moved = later s.front s.behind file room (ok.0, rw s.others_are at rest.accepted) in
    rw s.files_are (record {
      accepted = moved.accepted;
      same = moved.same ∙ one_more file (s.front ++ s.behind) room ∙ ap (λ l. added_all l (with_day room file)) (sym s.others_are) ∙ rest.same
          ∙ sym (one_more file files room);
    })

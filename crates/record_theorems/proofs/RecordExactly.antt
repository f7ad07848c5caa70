-- Refusal 14, "a record that no accepted entries leave": it is given exactly for those, of the records that have a place for each area that may
-- be held.
use Prim.Native.Nat.{ℕ}
use mathlib.Core.Bool.{Bool, true, false, false≢true}
use mathlib.Core.List.{List, []}
use mathlib.Core.Logic.{◌↔◌, ⊎_elim, dite}
use mathlib.Core.Path.{◌≡◌, refl, sym, ap, subst, ◌∙◌}
use native.Mathlib.Decide.{ℕ_discrete}
use native.Mathlib.Omega.{arith}
use lib.Dec.{leb, ltb}
use lib.ListN.{length}
use Rattle.limits.specs.Editions.{most_held}
use Rattle.std.specs.Prelude.{Err}
use Rattle.verdict.specs.declared.Refusal.TheVariants.{BadRecord}
use Rattle.verdict.specs.Verdict.{number_of, Verdict}
use Rattle.verdict.specs.First.{◌or_else◌}
use Rattle.verdict.proofs.First.{or_next, or_stop}
use Rattle.contents.specs.File.{day_of}
use Rattle.dayfile.specs.Check.{check_of}
use Rattle.recording.specs.declared.Record.{Record}
use Rattle.recording.specs.Record.{entries, record_of}
use Rattle.record_check.specs.Left.{record_left, record_rule}
use Rattle.acceptance.proofs.Acceptance.{check_most}
use Rattle.settlement.specs.Settlement.{accepted_rule, settle_with, days_by, settle_by}
use Rattle.entering.specs.Enter.{held_then, room_rule, enter_of}
use Rattle.recorded.specs.Recorded.{record_days, settle_recorded}
use Rattle.theorems.specs.Refused.{CheckRefuses, RoomShort, HourRefuses}
use Rattle.theorems.proofs.SettledOrUntouched.{refuses_exactly_by}
use Rattle.theorems.proofs.HourRefusals.{sixteen_eleven_or_twelve_by}
use Rattle.record_theorems.specs.Left.{MayBeLeft}
use Rattle.record_theorems.specs.Files.{empty_record, after_files, Leaving}
use Rattle.record_theorems.proofs.Passed.{Passes, test_says, test_so}
use Rattle.record_theorems.proofs.FilesLeave.{files_pass}
use Rattle.record_theorems.proofs.LeftByFiles.{left_by_files}

-- a record that passes is left by accepted day files ..
passes_left : (r : Record) → Passes r → Leaving r
unfolding after_files
passes_left r p =
    ⊎_elim
    (λ (e : r ≡ empty_record). record { files = []; accepted = tt; leave = sym e })
    (λ (m : (r ≡ record_of r.last (entries r)) × MayBeLeft r.last (entries r)).
    let f = left_by_files r.last (entries r) m.1 in
    record { files = f.0; accepted = f.1.0; leave = f.1.1 ∙ sym m.0 })
    p

-- .. and one that they leave passes
left_passes : (r : Record) → Leaving r → record_left r ≡ true
left_passes r g = test_so r (subst Passes g.leave (files_pass g.files g.accepted))

-- ---- no rule behind it answers 14

room_other : (r : Record) (file : List ℕ) (t : Bool) → leb (length (held_then r file)) most_held ≡ t → number_of (room_rule r file) ≡ 14 → ⊥
unfolding room_rule
room_other r file true q e = let z = rw q at e in omega arith
room_other r file false q e = let z = rw q at e in omega arith

settled_other : (d : ℕ → List ℕ → ℕ) (file : List ℕ) (room : ℕ) → number_of (check_of file) ≡ 0 → number_of (accepted_rule (days_by d file) file room) ≡ 14
    → ⊥
unfolding settle_with
settled_other d file room z e =
    let is : number_of (settle_by d file room) ≡ 14 = ap number_of (or_next (check_of file) _ z) ∙ e in
    ⊎_elim
    (λ (c : CheckRefuses file (settle_by d file room)). c.refuses z)
    (⊎_elim
    (λ (s : RoomShort file room (settle_by d file room)). omega (arith, ap number_of s.answered, is))
    (λ (h : HourRefuses d file room (settle_by d file room)).
    let same = sym is ∙ ap number_of h.answered in
    ⊎_elim (λ a. omega (arith, a, same)) (⊎_elim (λ b. omega (arith, b, same)) (λ c. omega (arith, c, same)))
    (sixteen_eleven_or_twelve_by d file h.k h.h h.first.refuses)))
    ((refuses_exactly_by d file room (settle_by d file room)).0 ((λ q. omega (arith, q, is)), refl))

-- the test that the code makes tells the records that a list of accepted entries leaves
pub record TestExact (r : Record) : Type 0 where
  pub passed : record_left r ≡ true → Leaving r
  pub refused : record_left r ≡ false → Leaving r → ⊥

pub record_tested : (r : Record) → length r.places ≡ most_held → TestExact r
record_tested r whole =
    record {
      passed = λ t. passes_left r (test_says r whole t);
      refused = λ f g. false≢true (sym f ∙ left_passes r g);
    }

-- ---- so 14 is the answer exactly where the check accepts the file and no list of accepted entries leaves the record

module _ (r : Record) (whole : length r.places ≡ most_held) (file : List ℕ) (rest : Verdict)
    (never : number_of (check_of file) ≡ 0 → number_of rest ≡ 14 → ⊥) where
  abbrev judged : Verdict
  judged = record_rule r (day_of file)

  abbrev answer : Verdict
  answer = check_of file or_else judged or_else rest

  good-goes-on : Leaving r → number_of judged ≡ 14 → ⊥
  unfolding record_rule
  good-goes-on g e = by (ltb r.last (day_of file)) refl
    where
      by : (t : Bool) → ltb r.last (day_of file) ≡ t → ⊥
      by true q = let z = rw (left_passes r g, q) at e in omega arith
      by false q = let z = rw (left_passes r g, q) at e in omega arith

  bad-stops : record_left r ≡ false → judged ≡ Err BadRecord
  unfolding record_rule
  bad-stops f = rw f

  fourteen-says : number_of answer ≡ 14 → (number_of (check_of file) ≡ 0) × (Leaving r → ⊥)
  fourteen-says e =
      dite (ℕ_discrete (number_of (check_of file)) 0)
      (λ z.
      let next = ap number_of (or_next (check_of file) (judged or_else rest) z) in (
        z,
        λ g. dite (ℕ_discrete (number_of judged) 0)
            (λ y. never z (sym (next ∙ ap number_of (or_next judged rest y)) ∙ e))
            (λ y. good-goes-on g (sym (next ∙ ap number_of (or_stop judged rest y)) ∙ e)),
      ))
      (λ n. absurd (omega (arith, check_most file, sym (ap number_of (or_stop (check_of file) (judged or_else rest) n)) ∙ e)))

  fourteen-so : number_of (check_of file) ≡ 0 → (Leaving r → ⊥) → number_of answer ≡ 14
  fourteen-so z none = by (record_left r) refl
    where
      by : (t : Bool) → record_left r ≡ t → number_of answer ≡ 14
      by true t = absurd (none ((record_tested r whole).passed t))
      by false t =
          let bad = bad-stops t in
          ap number_of (or_next (check_of file) (judged or_else rest) z ∙ or_stop judged rest (λ y. omega (arith, sym (ap number_of bad) ∙ y)) ∙ bad)

  exactly : (number_of answer ≡ 14) ↔ ((number_of (check_of file) ≡ 0) × (Leaving r → ⊥))
  exactly = (fourteen-says, λ w. fourteen-so w.0 w.1)

-- of an entry
pub record_exactly_entered : (r : Record) → length r.places ≡ most_held → (file : List ℕ)
    → (number_of (enter_of r file) ≡ 14) ↔ ((number_of (check_of file) ≡ 0) × (Leaving r → ⊥))
unfolding enter_of
record_exactly_entered r whole file = exactly r whole file (room_rule r file) (λ z. room_other r file (leb (length (held_then r file)) most_held) refl)

-- of a settlement with the record
pub record_exactly_settled : (r : Record) → length r.places ≡ most_held → (file : List ℕ) (room : ℕ)
    → (number_of (settle_recorded r file room) ≡ 14) ↔ ((number_of (check_of file) ≡ 0) × (Leaving r → ⊥))
unfolding settle_recorded
record_exactly_settled r whole file room =
    exactly r whole file (accepted_rule (days_by (record_days r (day_of file)) file) file room)
    (λ z e. settled_other (record_days r (day_of file)) file room z e)

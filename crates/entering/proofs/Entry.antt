-- An entry by its steps: a refusal leaves the record as it was; past 18 the record is aged and the areas of the day are marked, or there are too many.
use Prim.Native.Nat.{ℕ, ◌≤◌}
use Rattle.std.proofs.Common.{Option, Some, None, Err}
use mathlib.Core.List.{List}
use mathlib.Core.Path.{◌≡◌, sym, ap, ap₂, ◌∙◌}
use lib.Dec.{leb}
use lib.ListN.{length}
use borrow.Author.Tests.{le-leb, lt-leb, leb-true, eq-eqb, ne_eqb}
use Rattle.limits.specs.Editions.{most_held}
use Rattle.verdict.specs.declared.Refusal.TheVariants.{TooManyAreas}
use Rattle.verdict.specs.Verdict.{number_of, Accepted, Verdict}
use Rattle.verdict.specs.First.{◌or_else◌}
use Rattle.verdict.proofs.First.{or_first, or_second, or_next, or_assoc}
use Rattle.verdict.proofs.First.{kept as rule_kept}
use Rattle.contents.specs.File.{day_of, areas_of}
use Rattle.marking.specs.Marked.{marked_from}
use Rattle.recording.specs.declared.Record.{Record}
use Rattle.recording.specs.Record.{entries, record_of, kept, marked_all, answered}
use Rattle.recording.proofs.InPlace.{entries_of_lem, refused_full, marked_room}
use Rattle.dayfile.specs.Check.{check_of}
use Rattle.record_check.specs.Left.{record_rule, admit_rule, days_between}
use Rattle.entering.specs.Enter.{answer_with, held_then, room_rule, enter_of, record_after, entered}

module _ (r : Record) (file : List ℕ) where
  -- a refusal leaves the record as it was
  pub refused_so : (v : Verdict) → (number_of v ≡ 0 → ⊥) → r ≡ record_after r file v
  unfolding record_after
  refused_so v h = rw (ne_eqb (number_of v) 0 h)

  -- the record on the day of the file
  pub aged_on : (aged : Record) (date g : ℕ) → aged ≡ record_of date (kept g (entries r)) → g ≡ days_between r date → date ≡ day_of file
      → aged ≡ record_of (day_of file) (kept (days_between r (day_of file)) (entries r))
  aged_on aged date g e f h = e ∙ ap₂ (λ d n. record_of d (kept n (entries r))) h (f ∙ ap (days_between r) h)

  -- and then the areas of the day marked
  module _ (aged : Record) (next : Option Record) (n : ℕ) (stands : aged ≡ record_of (day_of file) (kept (days_between r (day_of file)) (entries r)))
      (came : next ≡ answered aged.last (marked_all (marked_from file 0 n) (entries aged))) (all : n ≡ areas_of file) where
    then-is : next ≡ answered (day_of file) (held_then r file)
    then-is =
        came
        ∙ ap₂ answered (ap (λ s. s.last) stands)
        (ap₂ (λ m l. marked_all (marked_from file 0 m) l) all (ap entries stands ∙ entries_of_lem (day_of file) _))

    pub too_many : next ≡ None → room_rule r file ≡ Err TooManyAreas
    unfolding room_rule
    too_many e = rw (lt-leb (length (held_then r file)) most_held (refused_full (day_of file) (held_then r file) (sym e ∙ then-is)))

    pub taken : (after : Record) → next ≡ Some after → (room_rule r file ≡ Accepted) × (after ≡ record_after r file Accepted)
    unfolding room_rule record_after
    taken after e =
        let room = marked_room (day_of file) (held_then r file) after (sym e ∙ then-is) in
        (rw (le-leb (length (held_then r file)) most_held room.0), room.1)

-- the check and the record, then the room
pub opened : (r : Record) (file : List ℕ) → enter_of r file ≡ (admit_rule r file or_else room_rule r file)
unfolding enter_of admit_rule
opened r file = sym (or_assoc (check_of file) (record_rule r (day_of file)) (room_rule r file))

-- the answer and the record afterwards are the entry
pub whole_entry : (r : Record) (file : List ℕ) {verdict : Verdict} {after : Record} → verdict ≡ enter_of r file → after ≡ record_after r file verdict
    → answer_with verdict after ≡ entered r file
whole_entry r file e f = rw (f, e)

-- ---- what an accepted entry says

pub record EntryTaken (r : Record) (file : List ℕ) : Type 0 where
  pub checked : number_of (check_of file) ≡ 0
  pub judged : number_of (record_rule r (day_of file)) ≡ 0
  pub few : length (held_then r file) ≤ most_held

module _ (r : Record) (file : List ℕ) where
  pub entry_says : number_of (enter_of r file) ≡ 0 → EntryTaken r file
  unfolding enter_of room_rule
  entry_says z =
      let rest = or_second (check_of file) _ z in
      record {
        checked = or_first (check_of file) _ z;
        judged = or_first (record_rule r (day_of file)) _ rest;
        few = leb-true _ _ (rule_kept (leb (length (held_then r file)) most_held) _ Accepted
            (or_second (record_rule r (day_of file)) _ rest)).0;
      }

  pub entry_so : EntryTaken r file → number_of (enter_of r file) ≡ 0
  unfolding enter_of room_rule
  entry_so t =
      ap number_of (or_next (check_of file) _ t.checked ∙ or_next (record_rule r (day_of file)) _ t.judged)
      ∙ rw (le-leb (length (held_then r file)) most_held t.few)

  pub entry_leaves : number_of (enter_of r file) ≡ 0 → (entered r file).after ≡ record_of (day_of file) (held_then r file)
  unfolding record_after
  entry_leaves z = rw (eq-eqb (number_of (enter_of r file)) 0 z)

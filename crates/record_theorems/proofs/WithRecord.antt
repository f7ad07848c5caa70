-- Demand 3 and the other theorems for settlement with the record: those of settlement under any d, for the d that the record counts. Two files that are
-- compared are of one trading day, under the same record.
use Prim.Native.Nat.{ℕ, ◌≤◌, ◌<◌}
use mathlib.Core.List.{List}
use mathlib.Core.Path.{◌≡◌, refl, sym, ap, ◌∙◌}
use lib.IntN.{ℤ, ◌+ℤ◌}
use lib.ListN.{length}
use Rattle.limits.specs.Ranges.{day_hours}
use Rattle.verdict.specs.Verdict.{number_of}
use Rattle.verdict.proofs.First.{or_first, or_second, or_next, or_same}
use Rattle.body.specs.Layout.{coordinators_of}
use Rattle.contents.specs.File.{day_of, areas_of, body_at}
use Rattle.dayfile.specs.Check.{check_of}
use Rattle.recording.specs.declared.Record.{Record}
use Rattle.record_check.specs.Left.{record_rule}
use Rattle.shares.specs.Shares.{sum}
use Rattle.statement.specs.Block.{area_numbers}
use Rattle.settlement.specs.Settlement.{settle_with, settle_by}
use Rattle.settlement.specs.Shown.{on_peak_shown, off_peak_shown, downward_shown, charges_shown, hour_shown}
use Rattle.recorded.specs.Recorded.{record_days, settle_recorded, after_recorded}
use Rattle.theorems.specs.EveryNumber.{EveryNumber}
use Rattle.theorems.proofs.EveryNumber.{every_number_by}
use Rattle.theorems.proofs.SettledOrUntouched.{SettledOrUntouched, settled_or_untouched_by, RefusesExactly, refuses_exactly_by}
use Rattle.theorems.proofs.HourRefusals.{SixteenExactly, sixteen_exactly_by, ElevenExactly, eleven_exactly_by, TwelveExactly, twelve_exactly_by}
use Rattle.theorems.proofs.PricesSeen.{PricesSeen, prices_seen_by}
use Rattle.theorems.proofs.AddsUp.{StatementsAddUp, statement_adds_up_by}
use Rattle.theorems.proofs.SurchargeShown.{SurchargesShown, every_surcharge_shown_by}
use Rattle.theorems.proofs.WithinACent.{ChargesWithinACent, every_charge_within_a_cent_by}
use Rattle.theorems.proofs.Turned.{StatementsTurned, statement_turned_by}
use Rattle.comparisons.specs.Days.{ByNumberAndDays}
use Rattle.comparisons.specs.Alone.{AloneFile}
use Rattle.comparisons.proofs.Merged.{SettledMerged, settled_too_by, MergedShown, merged_shown_by, MergeSettled, merge_settled_by}
use Rattle.comparisons.proofs.Alone.{AloneBlock, alone_block_by, AloneSettled, alone_settled_by, AloneShows, alone_shows_by}
use Rattle.comparisons.proofs.MissingPrices.{StatementsUnchanged, statement_unchanged_by, AnyQuantity, any_quantity_by}
use Rattle.record_theorems.specs.WithRecord.{statement_left_recorded, SettledByRecord}

-- ---- settlement with a record is settlement under its d

module _ (r : Record) (file : List ℕ) (room : ℕ) where
  same_answer : number_of (record_rule r (day_of file)) ≡ 0 → settle_recorded r file room ≡ settle_by (record_days r (day_of file)) file room
  unfolding settle_recorded settle_with
  same_answer z = or_same (check_of file) _ _ (λ q. or_next (record_rule r (day_of file)) _ z)

  record-judged : number_of (settle_recorded r file room) ≡ 0 → number_of (record_rule r (day_of file)) ≡ 0
  unfolding settle_recorded
  record-judged z = or_first (record_rule r (day_of file)) _ (or_second (check_of file) _ z)

pub settled_by_record : (r : Record) (date : ℕ) → SettledByRecord r date
settled_by_record r date =
    record {
      answer = λ file e z room. rw (← e) (same_answer r file room (rw e z));
      left = λ file e z statement. rw (← e) (ap (λ v. after_recorded r file v statement) (same_answer r file (length statement) (rw e z)));
      judged = λ file e room z. rw e at (record-judged r file room z);
    }

-- ---- the theorems under that d

module _ (r : Record) (date : ℕ) where
  abbrev d : ℕ → List ℕ → ℕ
  d = record_days r date

  -- it goes by an area's number alone
  pub record_by : ByNumberAndDays d
  record_by = record { same = λ number body body' e. refl }

  pub recorded_every_number : (file : List ℕ) (statement : List ℤ) → number_of (settle_by d file (length statement)) ≡ 0 → EveryNumber d file statement
  recorded_every_number file statement z = every_number_by d file statement z

  pub recorded_or_untouched : SettledOrUntouched d
  recorded_or_untouched = settled_or_untouched_by d

  pub recorded_refuses : RefusesExactly d
  recorded_refuses = refuses_exactly_by d

  pub recorded_sixteen : SixteenExactly d
  recorded_sixteen = sixteen_exactly_by d

  pub recorded_eleven : ElevenExactly d
  recorded_eleven = eleven_exactly_by d

  pub recorded_twelve : TwelveExactly d
  recorded_twelve = twelve_exactly_by d

  pub recorded_prices_seen : PricesSeen d
  recorded_prices_seen = prices_seen_by d

  pub recorded_adds_up : StatementsAddUp d
  recorded_adds_up = statement_adds_up_by d

  pub recorded_surcharge_shown : SurchargesShown d
  recorded_surcharge_shown = every_surcharge_shown_by d

  pub recorded_within_a_cent : ChargesWithinACent d
  recorded_within_a_cent = every_charge_within_a_cent_by d

  pub recorded_turned : StatementsTurned d d
  recorded_turned = statement_turned_by d d

  pub recorded_merged : MergedShown d
  recorded_merged = merged_shown_by d record_by

  pub recorded_merged_too : SettledMerged d
  recorded_merged_too = settled_too_by d record_by

  pub recorded_merge_settled : MergeSettled d
  recorded_merge_settled = merge_settled_by d record_by

  pub recorded_alone_block : AloneBlock d
  recorded_alone_block = alone_block_by d

  pub recorded_alone_too : AloneSettled d
  recorded_alone_too = alone_settled_by d

  pub recorded_alone : AloneShows d
  recorded_alone = alone_shows_by d

  pub recorded_unchanged : StatementsUnchanged d
  recorded_unchanged = statement_unchanged_by d record_by

  pub recorded_any_quantity : AnyQuantity d
  recorded_any_quantity = any_quantity_by d record_by

-- ---- read off the statement that `settle_recorded` leaves

-- the charges of every hour add up to its three amounts
pub recorded_statement_adds_up : (r : Record) (file : List ℕ) (statement : List ℤ) → number_of (settle_recorded r file (length statement)) ≡ 0
    → (k h : ℕ) → k < areas_of file → h < day_hours
    → let left = statement_left_recorded r file statement in
    sum (charges_shown file k h left) ≡ on_peak_shown file k h left +ℤ off_peak_shown file k h left +ℤ downward_shown file k h left
recorded_statement_adds_up r file statement z k h area hour =
    let by = settled_by_record r (day_of file) in
    let judged = record-judged r file (length statement) z in
    let settled = sym (ap number_of (by.answer file refl judged (length statement))) ∙ z in
    rw (by.left file refl judged statement) (recorded_adds_up r (day_of file) file statement settled k h area hour).3

-- an area in a file by itself, of the same day and under the same record, is settled where there is room for it, and shows what it showed
pub recorded_statement_alone : (r : Record) (k : ℕ) (file other : List ℕ) → AloneFile k file other → day_of other ≡ day_of file → k < areas_of file
    → number_of (check_of other) ≡ 0 → (statement statement' : List ℤ) → number_of (settle_recorded r file (length statement)) ≡ 0
    → area_numbers (coordinators_of (body_at file k)) ≤ length statement'
    → (number_of (settle_recorded r other (length statement')) ≡ 0)
    × ((h : ℕ) → h < day_hours
    → hour_shown other 0 h (statement_left_recorded r other statement') ≡ hour_shown file k h (statement_left_recorded r file statement))
recorded_statement_alone r k file other a same below checked statement statement' z fits =
    let date = day_of file in
    let by = settled_by_record r date in
    let judged = record-judged r file (length statement) z in
    let settled = sym (ap number_of (by.answer file refl judged (length statement))) ∙ z in
    let too = recorded_alone_too r date k file other a below checked (length statement) (length statement') settled fits in (
      ap number_of (by.answer other same judged (length statement')) ∙ too,
      λ h hour. rw (by.left file refl judged statement, by.left other same judged statement')
          (recorded_alone r date k file other a below statement statement' settled too h hour),
    )

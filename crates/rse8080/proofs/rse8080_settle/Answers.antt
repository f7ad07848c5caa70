use Rattle.std.proofs.Common.{◌≡◌, ℕ, ◌*◌, ◌/◌, List, ◌++◌, length, drop, sym, ap, ◌∙◌, arith}
use borrow.Author.Tests.{eq-eqb, ne_eqb}
use Rattle.verdict.specs.Verdict.{number_of, Verdict}
use Rattle.verdict.proofs.Accepted.{refuses, accepts}
use Rattle.encoding.specs.Encoding.{encoded}
use Rattle.contents.specs.File.{areas_of}
use Rattle.settlement.specs.Settlement.{numbers_needed, statement_to, days_by, own_days}
use Rattle.settlement.proofs.Accepted.{sound_file, own_kept}
use Rattle.settlement.proofs.Places.{place_coded}
use Rattle.settlement.proofs.Room.{check_accepts, room_enough}
use Rattle.rse8080.specs.Call.{verdict_of, bytes_after}
use Rattle.rse8080.proofs.rse8080_settle.Goals as goal
use Rattle.rse8080.proofs.rse8080_settle.Goals.{then-is_ok, else-is_ok}

stay : (file bytes : List ℕ) (answer : Verdict) → answer ≡ verdict_of file bytes → (number_of answer ≡ 0 → ⊥)
    → bytes ≡ bytes_after (verdict_of file bytes) file bytes
unfolding bytes_after
stay file bytes answer is refused = rw (← is, ne_eqb (number_of answer) 0 refused)

written : (file bytes : List ℕ) → number_of (verdict_of file bytes) ≡ 0
    → encoded (statement_to (days_by own_days file) file (areas_of file)) ++ drop (8 * numbers_needed file) bytes ≡ bytes_after (verdict_of file bytes) file bytes
unfolding bytes_after
written file bytes accepted = rw (eq-eqb (number_of (verdict_of file bytes)) 0 accepted)

pub put_areas-requires-clause-sound_file : goal.put_areas-requires-clause-sound_file
put_areas-requires-clause-sound_file c =
    let f = c.args.file.now in
    let room = length c.args.statement.now / 8 in
    let accepted = ap number_of (sym c.answer-answer.ensures) ∙ accepts _ c.if-is_ok.ensures.negation in
    let checked = check_accepts (days_by own_days f) f room accepted in
    (sound_file f checked, own_kept f checked)

pub put_areas-requires-clause-blocks_fit : goal.put_areas-requires-clause-blocks_fit
put_areas-requires-clause-blocks_fit c =
    let f = c.args.file.now in
    let room = length c.args.statement.now / 8 in
    let accepted = ap number_of (sym c.answer-answer.ensures) ∙ accepts _ c.if-is_ok.ensures.negation in
    omega (arith, room_enough (days_by own_days f) f room accepted)

pub code-requires : goal.code-requires
code-requires c = place_coded c.args.file.now (length c.args.statement.now / 8) _ c.answer-answer.ensures

pub returns-clause-statement_after : goal.returns-clause-statement_after
returns-clause-statement_after c =
    let f = c.args.file.now in
    let before = c.args.statement.now in
    elim c.if-is_ok.branch [
      | then-is_ok w ↦
          let accepted = ap number_of (sym c.answer-answer.ensures) ∙ accepts _ w.if-is_ok.ensures.negation in
          w.statement-is ∙ w.put_areas.ensures ∙ written f before accepted
      | else-is_ok w ↦ w.statement-is ∙ stay f before _ c.answer-answer.ensures (refuses _ w.if-is_ok.ensures.negation)
    ]

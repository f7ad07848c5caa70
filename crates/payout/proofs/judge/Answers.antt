use Rattle.std.proofs.Common.{◌≡◌, sym, ap, ◌∙◌, arith}
use Rattle.verdict.specs.Verdict.{Accepted, number_of}
use Rattle.verdict.proofs.First.{in_order, or_first}
use Rattle.settlement.proofs.Accepted.{sound_file}
use Rattle.payout_rules.specs.PayOut.{pay_out_rule}
use Rattle.payout_rules.proofs.Rule.{never_thirteen, payable}
use Rattle.payout.proofs.judge.Goals as goal

pub word-n-requires : goal.word-n-requires
word-n-requires c =
    let is = sym (c.in_ok-answer.ensures ∙ never_thirteen c.args.file.now) in
    omega (arith, (sound_file _ (or_first _ _ (ap number_of is))).room)

pub check_basis-requires : goal.check_basis-requires
check_basis-requires c =
    let is = sym (c.in_ok-answer.ensures ∙ never_thirteen c.args.file.now) in
    omega (arith, c.word-n.ensures, (sound_file _ (or_first _ _ (ap number_of is))).few)

pub returns-clause-payable : goal.returns-clause-payable
unfolding pay_out_rule
returns-clause-payable c =
    let a = c.args in
    let whole : pay_out_rule a.file.now a.basis.now a.room ≡ Accepted = grind (arith, in_order, never_thirteen) in
    payable a.file.now a.basis.now a.room (ap number_of whole)

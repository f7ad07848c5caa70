use Rattle.std.proofs.Common.{◌∙◌, to_z-of_z}
use Rattle.encoding.proofs.Encoding.{encoded_one}
use Rattle.statement.proofs.Charges.{charges_one, charges_shared}
use Rattle.statement.proofs.write_charges.Goals as goal

pub returns-then-kind-ne1 : goal.returns-then-kind-ne1
returns-then-kind-ne1 c =
    let a = c.args in
    let other = c.if-kind-ne1.true in
    c.put_number.ensures
    ∙ rw (
      to_z-of_z c.ranges.amount,
      charges_one a.kind a.amount a.body.now a.from a.count other,
      encoded_one a.amount,
      c.requires.one_unless_ciso other,
    )

pub returns : goal.returns
returns c =
    let a = c.args in
    c.share_words.ensures
    ∙ rw (to_z-of_z c.ranges.amount, charges_shared a.kind a.amount a.body.now a.from a.count c.if-kind-ne1.false)

use Rattle.std.proofs.Common.{rules}
use mir.Syntax.{w64}
use mir.ValLaws.{to_z-of_z}
use Rattle.shares.proofs.Sharing.{charge_fits, charge_bits}
use Rattle.shares.proofs.Carried.charge.Goals as goal

pub overflow_sub-charge : goal.overflow_sub-charge
overflow_sub-charge c =
    let s = c.args.self.now in
    rw (charge_bits s c.args.demand (search rules) (search rules) c.up_to-next.type_inv c.up_to-next.ensures)
    (charge_fits s c.args.demand c.requires.0 c.requires.1)

pub returns-clause-charged : goal.returns-clause-charged
returns-clause-charged c =
    let s = c.args.self.now in
    rw (charge_bits s c.args.demand (search rules) (search rules) c.up_to-next.type_inv c.up_to-next.ensures)
    (to_z-of_z w64 _ (charge_fits s c.args.demand c.requires.0 c.requires.1))

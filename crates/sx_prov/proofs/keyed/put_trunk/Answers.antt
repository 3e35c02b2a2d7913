use Rattle.std.proofs.Common.{sym, ◌∙◌, arith}
use Rattle.sx_prov.proofs.KeyLabels.{trunk_usable}
use Rattle.sx_prov.proofs.keyed.put_trunk.Goals as goal

pub put_two-requires-clause-middle : goal.put_two-requires-clause-middle
put_two-requires-clause-middle c =
    let same = trunk_usable c.args.view.now c.args.usable c.in-Ok.trunk (sym c.read_trunk.ensures ∙ c.in-Ok.is) in
    let few = c.leaves.ensures.few in
    omega (arith, same, few)

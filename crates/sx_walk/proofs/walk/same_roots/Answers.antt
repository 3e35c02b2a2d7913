use Rattle.std.proofs.Common.{◌∙◌, sym}
use Rattle.std.specs.Cmp.Rules.{signed_items}
use Rattle.sx_walk.proofs.walk.same_roots.Goals as goal

pub returns : goal.returns
returns c = λ yes. (signed_items c.args.some.now c.args.others.now).0 (sym c.eq.ensures ∙ yes)

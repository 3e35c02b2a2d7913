use Rattle.std.proofs.Common.{◌≡◌, ◌==◌, false, subst, arith}
use Rattle.std.proofs.lemmas.Bool.Decides.{nat_tests}
use Rattle.sx_moment.specs.Reading.{IsGathered}
use Rattle.sx_moment.proofs.Turned.{order_case}
use Rattle.sx_moment.proofs.sources.Sources.limit_before.Goals as goal

pub returns-else-k-eq1-clause-order : goal.returns-else-k-eq1-clause-order
returns-else-k-eq1-clause-order c =
    let gathered : IsGathered c.args.self.now = subst IsGathered c.self.view_is c.self.invariant in
    let later : (c.args.k == 1) ≡ false = grind (arith, nat_tests) in
    let order = order_case c.args.self.now c.args.k false gathered c.requires.first c.requires.last later in
    omega (arith, order, c.limit.ensures.value)

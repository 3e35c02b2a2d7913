use Rattle.std.proofs.Common.{inl, inr, eqb-true}
use Rattle.sx_walk.proofs.RenumberLemmas.{behind_ruled}
use Rattle.sx_walk.proofs.renumber.is_link_ruled.Goals as goal

pub returns-then-link-eq0 : goal.returns-then-link-eq0
returns-then-link-eq0 c = λ yes. behind_ruled c.args.table.now c.args.body c.args.no c.args.link (inl (eqb-true c.args.link 0 yes))

pub returns-else-link-eq0 : goal.returns-else-link-eq0
returns-else-link-eq0 c = λ yes. behind_ruled c.args.table.now c.args.body c.args.no c.args.link (inr (c.is_ruled.ensures yes))

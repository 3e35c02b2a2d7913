-- The sum is kept.
use Rattle.sx_sums.proofs.Summing.{owned_few}
use Rattle.sx_sums.proofs.sums.Sums.owned.Goals as goal

pub returns-clause-small : goal.returns-clause-small
returns-clause-small c = owned_few c.self.inside.entries.items c.self.inside.owned c.self.inside.slack c.self.inside.fault c.self.invariant

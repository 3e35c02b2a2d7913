-- The sum is kept.
use Rattle.sx_sums.proofs.Summing.{fault_few}
use Rattle.sx_sums.proofs.sums.Sums.fault.Goals as goal

pub returns-clause-small : goal.returns-clause-small
returns-clause-small c = fault_few c.self.inside.entries.items c.self.inside.owned c.self.inside.slack c.self.inside.fault c.self.invariant

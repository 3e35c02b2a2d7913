-- One entry is replaced, and each sum moves by what it had and has.
use Rattle.sx_sums.proofs.Summing.{owned_few, slack_few, fault_few}
use Rattle.sx_sums.proofs.sums.Sums.put.Goals as goal

pub moved-self-inside-requires-clause-small : goal.moved-self-inside-requires-clause-small
moved-self-inside-requires-clause-small c = owned_few c.self.inside.entries.items c.self.inside.owned c.self.inside.slack c.self.inside.fault c.self.invariant

pub moved-self-inside-requires-2-clause-small : goal.moved-self-inside-requires-2-clause-small
moved-self-inside-requires-2-clause-small c = slack_few c.self.inside.entries.items c.self.inside.owned c.self.inside.slack c.self.inside.fault c.self.invariant

pub moved-self-inside-requires-3-clause-small : goal.moved-self-inside-requires-3-clause-small
moved-self-inside-requires-3-clause-small c = fault_few c.self.inside.entries.items c.self.inside.owned c.self.inside.slack c.self.inside.fault c.self.invariant

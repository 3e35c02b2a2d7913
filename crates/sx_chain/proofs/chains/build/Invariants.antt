use Rattle.sx_chain.proofs.Linked.{IsBuilt}
use Rattle.sx_chain.proofs.chains.build.Given as goal

abbrev pub invariant-loop-i : goal.invariant-loop-i
invariant-loop-i l = IsBuilt l.numbers l.i l.nodes.items l.distinct.items l.ends.items

use Rattle.sx_chain.specs.Links.{numbers_of}
use Rattle.sx_chain.proofs.Linked.{IsAlong}
use Rattle.sx_base.proofs.Places.{reach}
use Rattle.sx_chain.proofs.chains.Chains.newest.Given as goal

abbrev pub invariant-loop-found : goal.invariant-loop-found
invariant-loop-found g l = IsAlong (numbers_of l.self-inside.nodes.items) l.fn.page l.before l.fn.steps l.steps l.found

abbrev pub decreases-loop-found : goal.decreases-loop-found
decreases-loop-found g l = reach l.found

use Rattle.std.proofs.Common.{Contains}
use Rattle.sx_chain.specs.Links.{numbers_of}
use Rattle.sx_chain.proofs.Linked.{head_none}
use Rattle.sx_chain.proofs.chains.Chains.head.Goals as goal

pub returns-in-None : goal.returns-in-None
returns-in-None c =
    let never : Contains c.self.inside.distinct.items c.args.number → ⊥ = rw (← c.deref.ensures.value) c.in-None.ensures.none in
    rw (← c.self.view_is) (head_none (numbers_of c.self.inside.nodes.items) c.self.inside.distinct.items c.args.number c.self.invariant.1 never)

use Rattle.std.proofs.Common.{◌∙◌, arith}
use Rattle.sx_chain.proofs.Linked.{no_node, far_at, far_twice}
use Rattle.sx_chain.proofs.chains.linked.Goals as goal

pub bounds-nodes-near : goal.bounds-nodes-near
bounds-nodes-near c =
    let before = rw c.in-Some.is at c.requires.before in
    let near = far_at c.args.nodes.now c.in-Some.before no_node c.requires.skewed before.0 in
    omega (arith, near.0, before.0)

pub returns-then-near-further-clause-far : goal.returns-then-near-further-clause-far
returns-then-near-further-clause-far c =
    let before = rw c.in-Some.is at c.requires.before in
    let further = far_twice c.args.nodes.now c.in-Some.before no_node no_node c.requires.skewed before.0 in
    let own = c.requires.own in
    rw (c.new-then-near-further.ensures.far, c.in-Some.is) (omega (arith, further.0, before.0, own), further.1 ∙ before.1)

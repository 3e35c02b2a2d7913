use Rattle.std.proofs.Common.{◌∙◌, subst, All}
use Rattle.sx_node.specs.Claims.{LiesWithin, claims_of}
use Rattle.sx_prov.proofs.Apart.{apart_labels}
use Rattle.sx_prov.proofs.Claiming.{lie_permuted, node_labels}
use Rattle.sx_prov.proofs.keyed.put_claims.Goals as goal

pub put_apart-requires-clause-within : goal.put_apart-requires-clause-within
put_apart-requires-clause-within c =
    lie_permuted c.args.usable (claims_of c.args.node.now) c.in_ok-claims.claims.items c.deref.result.now c.in_ok-claims.ensures.sorted c.deref.ensures.value
    (subst (λ usable. All (LiesWithin usable) (claims_of c.args.node.now)) c.requires.usable c.sorted_claims.ensures.within)

pub returns-then-branch : goal.returns-then-branch
returns-then-branch c =
    apart_labels c.args.node.now c.in_ok-claims.claims.items c.deref.result.now c.put_apart.new.map c.args.usable c.content.result c.content.ensures.value
    c.in_ok-claims.ensures.sorted c.deref.ensures.value (c.in_ok-put_apart.ensures c.if-branch.true)

pub count_claims-requires-clause-within : goal.count_claims-requires-clause-within
count_claims-requires-clause-within c =
    lie_permuted c.args.usable (claims_of c.args.node.now) c.in_ok-claims.claims.items c.deref-2.result.now c.in_ok-claims.ensures.sorted c.deref-2.ensures.value
    (subst (λ usable. All (LiesWithin usable) (claims_of c.args.node.now)) c.requires.usable c.sorted_claims.ensures.within)

pub returns : goal.returns
returns c =
    c.in_ok-put_states.ensures
    ∙ node_labels c.args.node.now c.in_ok-claims.claims.items c.deref-2.result.now c.in_ok-states.states c.args.usable c.content-2.result c.content-2.ensures.value
    c.in_ok-claims.ensures.sorted c.deref-2.ensures.value c.in_ok-states.ensures.counted c.in_ok-states.ensures.len

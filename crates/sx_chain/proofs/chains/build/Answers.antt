use Rattle.std.proofs.Common.{◌≡◌, ◌<◌, ℕ, List, rules, get_or, length, slice_index, replicate, ap, ◌∙◌}
use Rattle.std.proofs.lemmas.List.Elements.{Contains-get_or}
use Rattle.sx_chain.specs.Heads.{place_below}
use Rattle.sx_chain.proofs.Linked.{built_none, built_more, head_there, newest_at}
use Rattle.sx_chain.proofs.chains.build.Goals as goal

pub loop-i-init : goal.loop-i-init
loop-i-init c =
    let long : c.len.result ≡ length c.in_ok-distinct.distinct.items = search rules in
    let zeros : ℕ → List ℕ = λ n. replicate n 0 in
    built_none c.args.numbers.now c.in_ok-nodes.nodes.items c.in_ok-distinct.distinct.items c.in_ok-ends.ends.items c.in_ok-nodes.ensures.items
    (c.in_ok-ends.ensures.items_if_clones_equal (λ y h. h) ∙ ap zeros long)

pub known_rank-rank-requires-clause-known : goal.known_rank-rank-requires-clause-known
known_rank-rank-requires-clause-known c =
    rw c.deref.ensures.value (c.in_ok-distinct.ensures.held _ (Contains-get_or c.args.numbers.now c.loop-i.i 0 c.loop-i-test.true))

pub linked-node-requires-clause-before : goal.linked-node-requires-clause-before
linked-node-requires-clause-before c =
    let there : c.known_rank-rank.result < length c.in_ok-distinct.distinct.items = rw (← c.deref.ensures.value) c.known_rank-rank.ensures.within in
    let here : slice_index c.in_ok-distinct.distinct.items c.known_rank-rank.result ≡ get_or c.args.numbers.now c.loop-i.i 0 = rw (← c.deref.ensures.value) c.known_rank-rank.ensures.is in
    let end : c.head_at-previous.result ≡ place_below (slice_index c.loop-i.ends.items c.known_rank-rank.result) = rw (← c.deref-in-loop-i.ensures.value) c.head_at-previous.ensures in
    rw c.deref-in-loop-i-2.ensures.value
    (head_there c.loop-i.nodes.items (get_or c.args.numbers.now c.loop-i.i 0) c.head_at-previous.result
    (newest_at _ c.in_ok-distinct.distinct.items c.loop-i.ends.items _ c.known_rank-rank.result _ c.loop-i.invariant.heads there here end))

pub loop-i-preserved : goal.loop-i-preserved
loop-i-preserved c =
    let there : c.known_rank-rank.result < length c.in_ok-distinct.distinct.items = rw (← c.deref.ensures.value) c.known_rank-rank.ensures.within in
    let here : slice_index c.in_ok-distinct.distinct.items c.known_rank-rank.result ≡ get_or c.args.numbers.now c.loop-i.i 0 = rw (← c.deref.ensures.value) c.known_rank-rank.ensures.is in
    let end : c.head_at-previous.result ≡ place_below (slice_index c.loop-i.ends.items c.known_rank-rank.result) = rw (← c.deref-in-loop-i.ensures.value) c.head_at-previous.ensures in
    built_more c.args.numbers.now c.loop-i.i c.loop-i.nodes.items c.push.new.self.items c.linked-node.result
    c.in_ok-distinct.distinct.items c.loop-i.ends.items c.put_end.new.ends.items c.known_rank-rank.result
    c.requires c.loop-i-test.true c.in_ok-distinct.ensures.rising c.loop-i.invariant there here
    c.in_ok-push.ensures.items
    c.linked-node.ensures.number
    (c.linked-node.ensures.previous ∙ end)
    (rw (c.linked-node.ensures.previous, ← c.deref-in-loop-i-2.ensures.value) c.linked-node.ensures.far)
    c.put_end.ensures

-- The walk's facts, put together.
use Rattle.std.proofs.Common.{◌∙◌, ap, sym, subst, arith, rules, ◌≡◌, length, replicate, None}
use Rattle.sx_closure.specs.Tallying.{added_all, IsTableOf}
use Rattle.sx_closure.proofs.Walks.{loop_few}
use Rattle.sx_closure.proofs.Closing.{closing_start, closing_more, closing_end}
use Rattle.sx_closure.proofs.closure.close.Goals as goal

pub loop-pair-init : goal.loop-pair-init
loop-pair-init g c =
    let graph = g.L.Links.graph c.args.links.now in
    closing_start graph c.in_ok-held.held.items c.add_roots.new.tally (g.met.L.Links.sound c.args.links.now) c.in_ok-held.ensures
    (c.in_ok-add_roots.ensures ∙ ap (λ tally. added_all tally graph.roots) c.in_ok-tally.ensures)

pub overflow_add-next : goal.overflow_add-next
overflow_add-next g c =
    let graph = g.L.Links.graph c.args.links.now in
    let few = loop_few graph c.loop-pair.next c.loop-pair.tally c.loop-pair.invariant.walk in
    omega (arith, few, c.in-Some.ensures.0, (g.met.L.Links.sound c.args.links.now).few)

pub loop-pair-smaller : goal.loop-pair-smaller
loop-pair-smaller g c =
    let graph = g.L.Links.graph c.args.links.now in
    let few = loop_few graph c.loop-pair.next c.loop-pair.tally c.loop-pair.invariant.walk in
    omega (arith, few, c.in-Some.ensures.0)

pub loop-pair-preserved : goal.loop-pair-preserved
loop-pair-preserved g c =
    let graph = g.L.Links.graph c.args.links.now in
    closing_more graph c.loop-pair.next c.loop-pair.tally c.add_targets.new.tally c.in-Some.pair (g.met.L.Links.sound c.args.links.now) c.loop-pair.invariant
    c.in-Some.ensures c.in_ok-add_targets.ensures

pub returns : goal.returns
returns g c =
    let graph = g.L.Links.graph c.args.links.now in
    let same = c.in_ok-held.ensures ∙ sym c.loop-pair.invariant.walk.walked.counted_is.held_is in
    let long : c.len.result ≡ length c.in_ok-held.held.items = search rules in
    subst (IsTableOf graph c.args.body) (sym c.table.ensures)
    (closing_end graph c.loop-pair.next c.args.body c.loop-pair.tally c.in_ok-lefts.lefts.items (g.met.L.Links.sound c.args.links.now) c.loop-pair.invariant c.in_default.ensures
    (c.in_ok-lefts.ensures ∙ ap (λ n. replicate n None) (long ∙ ap length same)))

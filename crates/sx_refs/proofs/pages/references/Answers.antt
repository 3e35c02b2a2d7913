use Rattle.std.proofs.Common.{◌<◌, ◌^◌, length, arith}
use Rattle.sx_base.specs.Held.{held_pages}
use Rattle.sx_refs.proofs.Graphs.{is_graph, within_small}
use Rattle.sx_refs.proofs.pages.references.Goals as goal

pub invariant_of-links-clause-graph : goal.invariant_of-links-clause-graph
invariant_of-links-clause-graph g c =
    let size = g.P.PageViews.pages c.args.pages.now in
    let view = g.P.PageViews.view c.args.pages.now in
    let few : length (held_pages size view) < 2 ^ 32 = omega (arith, c.held-count.ensures) in
    is_graph size view c.args.layout.now c.args.roots.now few (omega arith)
    (within_small c.args.layout.now.usable (g.P.PageViews.page_size c.args.pages.now) c.requires.within c.requires.small)

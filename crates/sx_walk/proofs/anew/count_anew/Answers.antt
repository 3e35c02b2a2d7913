use Rattle.std.proofs.Common.{◌-◌, ◌<◌, ◌^◌, ◌∙◌, length, sym, subst, arith}
use Rattle.sx_base.specs.Held.{held_pages}
use Rattle.sx_closure.specs.Tallying.{IsTableOf}
use Rattle.sx_closure.proofs.Widening.{wide_table}
use Rattle.sx_refs.specs.Pages.{graph_of}
use Rattle.sx_refs.proofs.Graphs.{graph_roots, is_graph, within_small}
use Rattle.sx_walk.proofs.Shown.{is_wider, wide_graph, wide_sourced}
use Rattle.sx_walk.proofs.Sourcing.{is_sourced}
use Rattle.sx_walk.proofs.anew.count_anew.Goals as goal

pub invariant_of-links-clause-graph : goal.invariant_of-links-clause-graph
invariant_of-links-clause-graph g c =
    let size = g.P.PageViews.pages c.args.pages.now in
    let view = g.P.PageViews.view c.args.pages.now in
    let few : length (held_pages size view) < 2 ^ 32 = omega (arith, c.held-count.ensures) in
    wide_graph c.args.numbers.now (graph_of size view c.args.layout.now c.args.roots.now)
    (is_graph size view c.args.layout.now c.args.roots.now few (omega arith)
    (within_small c.args.layout.now.usable (g.P.PageViews.page_size c.args.pages.now) c.requires.within c.requires.small)) c.requires.rises c.requires.few

pub invariant_of-links-clause-sourced : goal.invariant_of-links-clause-sourced
invariant_of-links-clause-sourced g c =
    wide_sourced c.args.numbers.now (graph_of (g.P.PageViews.pages c.args.pages.now) (g.P.PageViews.view c.args.pages.now) c.args.layout.now c.args.roots.now)
    (is_sourced (g.P.PageViews.pages c.args.pages.now) (g.P.PageViews.view c.args.pages.now) c.args.layout.now c.args.roots.now)

pub begin-requires-clause-roots : goal.begin-requires-clause-roots
begin-requires-clause-roots g c =
    c.in_ok-kept.ensures ∙ sym (graph_roots (g.P.PageViews.pages c.args.pages.now) (g.P.PageViews.view c.args.pages.now) c.args.layout.now c.args.roots.now)

pub returns-clause-good : goal.returns-clause-good
returns-clause-good g c =
    let size = g.P.PageViews.pages c.args.pages.now in
    let view = g.P.PageViews.view c.args.pages.now in
    let few : length (held_pages size view) < 2 ^ 32 = omega (arith, c.held-count.ensures) in
    is_graph size view c.args.layout.now c.args.roots.now few (omega arith)
    (within_small c.args.layout.now.usable (g.P.PageViews.page_size c.args.pages.now) c.requires.within c.requires.small)

pub returns-clause-table : goal.returns-clause-table
returns-clause-table g c =
    let size = g.P.PageViews.pages c.args.pages.now in
    let view = g.P.PageViews.view c.args.pages.now in
    let graph = graph_of size view c.args.layout.now c.args.roots.now in
    let wider = is_wider c.args.numbers.now size view c.args.layout.now c.args.roots.now c.requires.covered
    (λ number past. c.size-size.ensures.within number (omega (arith, past, c.size-size.ensures.size))) c.size-size.ensures.from_one in
    subst (IsTableOf graph (c.args.layout.now.usable - 4)) (sym c.in_ok-table.ensures) (wide_table graph (c.args.layout.now.usable - 4) c.args.numbers.now c.in_ok-counted.counted wider.held c.in_ok-counted.ensures)

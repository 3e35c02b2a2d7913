use Rattle.std.proofs.Common.{◌<◌, ◌^◌, ◌∙◌, refl, ℕ, List, None, map, length, get_or, option_copied, arith}
use Rattle.sx_base.specs.Held.{held_pages}
use Rattle.sx_refs.specs.Pages.{graph_of}
use Rattle.sx_walk.specs.Turning.{HasUsable}
use Rattle.sx_refs.proofs.Graphs.{is_graph, within_small}
use Rattle.sx_walk.proofs.Shown.{wide_graph, wide_sourced}
use Rattle.sx_walk.proofs.Sourcing.{is_sourced}
use Rattle.sx_walk.proofs.StepLemmas.{kept_usable, can_follow, has_stepped, missing_is}
use Rattle.sx_walk.proofs.step.follow_step.Goals as goal

pub gather-requires : goal.gather-requires
gather-requires g c κs =
    let views = map (option_copied {T = List ℕ}) c.args.views.now.items in
    let before : (rank : ℕ) → HasUsable c.args.layout.now.usable (get_or views rank None) =
    kept_usable c.args.numbers.now views c.args.layout.now.usable c.args.table.now c.args.sums c.args.old.now c.args.missing.now c.requires.kept in (
      (refl, tt),
      (
        c.requires.rises,
        (c.requires.long, (c.requires.ranks, (c.requires.stand, (c.requires.least, (c.requires.within, (c.requires.small, before)))))),
      ),
    )

pub invariant_of-links-clause-graph : goal.invariant_of-links-clause-graph
invariant_of-links-clause-graph g c =
    let size = g.P.PageViews.pages c.args.pages.now in
    let view = g.P.PageViews.view c.args.pages.now in
    let few : length (held_pages size view) < 2 ^ 32 = omega (arith, c.held-count.ensures) in
    wide_graph c.args.numbers.now (graph_of size view c.args.layout.now c.args.roots.now)
    (is_graph size view c.args.layout.now c.args.roots.now few (omega arith)
    (within_small c.args.layout.now.usable (g.P.PageViews.page_size c.args.pages.now) c.requires.within c.requires.small)) c.requires.rises c.requires.kept.wide.few

pub invariant_of-links-clause-sourced : goal.invariant_of-links-clause-sourced
invariant_of-links-clause-sourced g c =
    wide_sourced c.args.numbers.now (graph_of (g.P.PageViews.pages c.args.pages.now) (g.P.PageViews.view c.args.pages.now) c.args.layout.now c.args.roots.now)
    (is_sourced (g.P.PageViews.pages c.args.pages.now) (g.P.PageViews.view c.args.pages.now) c.args.layout.now c.args.roots.now)

pub follow-requires : goal.follow-requires
follow-requires g c =
    can_follow c.args.numbers.now (map (option_copied {T = List ℕ}) c.args.views.now.items) (map (option_copied {T = List ℕ}) c.gather.new.views.items)
    (g.P.PageViews.pages c.args.pages.now) c.args.layout.now c.args.roots.now c.args.table.now c.args.sums c.args.old.now (g.P.PageViews.view c.args.pages.now)
    c.exchange.new.come c.gather.new.come c.exchange.new.gone c.gather.new.gone c.args.missing.now c.requires.kept c.requires.covered c.in_ok-gather.ensures.looked
    c.in_ok-gather.ensures.turned c.new-come.result c.new-gone.result c.in_ok-new.new c.new-come.ensures c.new-gone.ensures c.in_ok-new.ensures c.in_ok-exchange.ensures

pub returns-clause-stepped : goal.returns-clause-stepped
returns-clause-stepped g c =
    let size = g.P.PageViews.pages c.args.pages.now in
    let next = g.P.PageViews.view c.args.pages.now in
    let few : length (held_pages size next) < 2 ^ 32 = omega (arith, c.held-count.ensures) in
    let good = is_graph size next c.args.layout.now c.args.roots.now few (omega arith)
    (within_small c.args.layout.now.usable (g.P.PageViews.page_size c.args.pages.now) c.requires.within c.requires.small) in
    let wide = wide_graph c.args.numbers.now (graph_of size next c.args.layout.now c.args.roots.now) good c.requires.rises c.requires.kept.wide.few in
    has_stepped c.args.numbers.now (map (option_copied {T = List ℕ}) c.args.views.now.items) size c.args.layout.now c.args.roots.now c.args.table.now c.renew_table.new.table c.renumber.new.table c.args.sums
    c.in-Some.followed.sums c.args.old.now next c.in-Some.followed.named.items c.in-Some.followed.lost.items c.args.changed.now c.in-Some-renewed.touched.items c.renumber.new.touched.items c.args.missing.now c.count_dead.new.missing
    c.requires.kept c.requires.covered
    (λ number past. c.size-size.ensures.within number (omega (arith, past, c.size-size.ensures.size))) c.size-size.ensures.from_one c.requires.stand good wide
    (rw c.in-Some.is at c.in_ok-followed.ensures.followed) (rw c.in-Some.is at c.in_ok-followed.ensures.kept)
    (rw c.in-Some-renewed.is at c.in_ok-renewed.ensures.renewed) (rw c.in-Some-count_dead.is at c.count_dead.ensures.recounted)
    ((rw c.in-Some-renewed.is at c.in_ok-renewed.ensures.dead) ∙ (rw c.in-Some-count_dead.is at c.count_dead.ensures.dead)) c.requires.rises c.requires.least
    c.in_ok-renumber.ensures.grows (c.in_ok-renumber.ensures.fit c.if-not-branch.false)

pub returns-clause-missing : goal.returns-clause-missing
returns-clause-missing g c =
    let size = g.P.PageViews.pages c.args.pages.now in
    let next = g.P.PageViews.view c.args.pages.now in
    let few : length (held_pages size next) < 2 ^ 32 = omega (arith, c.held-count.ensures) in
    let good = is_graph size next c.args.layout.now c.args.roots.now few (omega arith)
    (within_small c.args.layout.now.usable (g.P.PageViews.page_size c.args.pages.now) c.requires.within c.requires.small) in
    let wide = wide_graph c.args.numbers.now (graph_of size next c.args.layout.now c.args.roots.now) good c.requires.rises c.requires.kept.wide.few in
    missing_is c.args.numbers.now (map (option_copied {T = List ℕ}) c.args.views.now.items) size c.args.layout.now c.args.roots.now c.args.table.now c.renew_table.new.table c.renumber.new.table c.args.sums
    c.in-Some.followed.sums c.args.old.now next c.in-Some.followed.named.items c.in-Some.followed.lost.items c.args.changed.now c.in-Some-renewed.touched.items c.renumber.new.touched.items c.args.missing.now c.count_dead.new.missing
    c.requires.kept c.requires.covered
    (λ number past. c.size-size.ensures.within number (omega (arith, past, c.size-size.ensures.size))) c.size-size.ensures.from_one c.requires.stand good wide
    (rw c.in-Some.is at c.in_ok-followed.ensures.followed) (rw c.in-Some.is at c.in_ok-followed.ensures.kept)
    (rw c.in-Some-renewed.is at c.in_ok-renewed.ensures.renewed) (rw c.in-Some-count_dead.is at c.count_dead.ensures.recounted)
    ((rw c.in-Some-renewed.is at c.in_ok-renewed.ensures.dead) ∙ (rw c.in-Some-count_dead.is at c.count_dead.ensures.dead)) c.requires.rises c.requires.least
    c.in_ok-renumber.ensures.grows (c.in_ok-renumber.ensures.fit c.if-not-branch.false)

use Rattle.std.proofs.Common.{◌*◌, ◌++◌, ◌<◌, ◌^◌, subst, sym, ap, ◌∙◌, arith}
use Rattle.sx_base.specs.Maps.{lock_page_of}
use Rattle.sx_prov.specs.Stretches.{stretches_of}
use Rattle.sx_refs.specs.Pages.{graph_of}
use Rattle.sx_map_text.specs.Rest.{lines_along, moment_labels, HasRoom}
use Rattle.sx_map_text.proofs.Walked.{totals_at, lines_all, room_first}
use Rattle.sx_map_text.proofs.map_lines.MapLines.new.Goals as goal

pub invariant_of-result : goal.invariant_of-result
invariant_of-result g c =
    let graph = graph_of (g.P.PageViews.pages c.args.pages.now) (g.P.PageViews.view c.args.pages.now) c.args.layout c.args.roots.now in
    let labels = moment_labels (g.P.PageViews.pages c.args.pages.now) (g.P.PageViews.view c.args.pages.now) c.args.layout c.args.roots.now in
    let fits = c.size.type_inv in
    let size = c.size.ensures.size in
    let few : g.P.PageViews.pages c.args.pages.now < 2 ^ 32 = omega (arith, fits, size) in
    record {
      counted = c.in_ok-refs.ensures;
      same_size = c.requires.page_size;
      least = c.requires.least;
      within = c.requires.within;
      small = c.requires.small;
      room = subst (HasRoom labels c.args.layout.page_size (totals_at (c.from.result * c.from-2.result) 0 0 0 c.dead.result)) (sym c.start.ensures)
          (room_first graph c.args.layout (g.P.PageViews.view c.args.pages.now) (g.P.PageViews.pages c.args.pages.now) (c.from.result * c.from-2.result) c.dead.result few c.requires.small);
    }

pub returns : goal.returns
returns g c =
    let graph = graph_of (g.P.PageViews.pages c.args.pages.now) (g.P.PageViews.view c.args.pages.now) c.args.layout c.args.roots.now in
    let labels = moment_labels (g.P.PageViews.pages c.args.pages.now) (g.P.PageViews.view c.args.pages.now) c.args.layout c.args.roots.now in
    let view = g.P.PageViews.view c.args.pages.now in
    let size = g.P.PageViews.pages c.args.pages.now in
    let page_size = c.args.layout.page_size in
    let stretches = stretches_of (lock_page_of page_size) view size in
    let none = ap (λ lines. lines ++ lines_along labels page_size (totals_at (c.from.result * c.from-2.result) 0 0 0 c.dead.result) c.start.result) c.none.ensures in
    let walked = ap (lines_along labels page_size (totals_at (c.from.result * c.from-2.result) 0 0 0 c.dead.result)) c.start.ensures in
    let pages = ap (λ n. lines_along labels page_size (totals_at (n * c.from-2.result) 0 0 0 c.dead.result) stretches) (c.from.ensures ∙ c.size.ensures.size) in
    let bytes = ap (λ n. lines_along labels page_size (totals_at (size * n) 0 0 0 c.dead.result) stretches) c.from-2.ensures in
    none ∙ walked ∙ pages ∙ bytes ∙ lines_all graph c.args.layout view size c.dead.result (c.dead.ensures ∙ c.in_ok-refs.ensures.dead)

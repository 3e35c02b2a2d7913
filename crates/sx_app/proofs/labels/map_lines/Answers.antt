use Rattle.std.proofs.Common.{ap, ◌∙◌}
use Rattle.sx_base.specs.declared.layout.Layout.{Layout}
use Rattle.sx_map_text.specs.Map.{map_lines}
use Rattle.sx_moment.specs.Gathered.{size_at}
use Rattle.sx_moment.specs.Heads.{layout_of}
use Rattle.sx_moment.specs.Views.{view_of}
use Rattle.sx_refs.specs.Pages.{graph_of}
use Rattle.sx_app.proofs.labels.map_lines.Goals as goal

pub returns-clause-told : goal.returns-clause-told
returns-clause-told c =
    let case = c.args.snapshot.now.case.now in
    let moment = c.args.snapshot.now.moment in
    let size = size_at case moment in
    let view = view_of case moment in
    let first = ap (λ (layout : Layout). map_lines (graph_of size view layout c.args.roots.now) layout view size) c.layout-layout.ensures.layout in
    let next = ap (λ roots. map_lines (graph_of size view (layout_of case moment) roots) (layout_of case moment) view size) c.requires in
    c.in_ok-lines.ensures ∙ first ∙ next

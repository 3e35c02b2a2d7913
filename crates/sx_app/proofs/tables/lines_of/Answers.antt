use Rattle.std.proofs.Common.{Ok, sym, ap, ◌∙◌}
use Rattle.std.specs.Option.{option_map}
use Rattle.sx_base.specs.declared.layout.Layout.{Layout}
use Rattle.sx_moment.specs.Gathered.{size_at}
use Rattle.sx_moment.specs.Heads.{layout_of}
use Rattle.sx_moment.specs.Views.{view_of}
use Rattle.sx_show_text.specs.Given.{columns_by}
use Rattle.sx_show_text.specs.Show.{show_lines}
use Rattle.sx_app.proofs.tables.lines_of.Goals as goal

pub returns-clause-told : goal.returns-clause-told
returns-clause-told c =
    let case = c.args.snapshot.now.case.now in
    let moment = c.args.snapshot.now.moment in
    let columns = option_map columns_by c.args.table.columns in
    let usable = ap (λ (layout : Layout). layout.usable) c.layout-layout.ensures.layout in
    let first = ap (λ used. show_lines (size_at case moment) (view_of case moment) used c.encoding-encoding.result c.args.table.root columns) usable in
    let next = ap (λ encoding. show_lines (size_at case moment) (view_of case moment) (layout_of case moment).usable encoding c.args.table.root columns) c.encoding-encoding.ensures in
    ap Ok (sym (c.in_ok-lines.ensures ∙ first ∙ next))

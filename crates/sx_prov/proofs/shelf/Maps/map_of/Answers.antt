use Rattle.std.proofs.Common.{◌∙◌, sym}
use Rattle.sx_prov.proofs.Finding.{some_view, labels_by_key}
use Rattle.sx_prov.proofs.shelf.Maps.map_of.Goals as goal

pub returns : goal.returns
returns g c =
    let viewed = some_view (g.P.PageViews.view c.args.pages.now c.args.no) c.requires.viewed in
    let asked = c.in_ok-place.ensures viewed.0 viewed.1 in
    c.map.ensures _ asked.0 ∙ sym (labels_by_key c.args.refs.now c.args.layout.now (g.P.PageViews.view c.args.pages.now) c.args.no viewed.0 c.requires.lock viewed.1)

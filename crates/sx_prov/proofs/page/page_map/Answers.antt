use Rattle.std.proofs.Common.{◌∙◌}
use Rattle.sx_prov.proofs.Standings.{labels_are}
use Rattle.sx_prov.proofs.page.page_map.Goals as goal

pub returns-clause-labels : goal.returns-clause-labels
returns-clause-labels g c =
    labels_are (g.P.PageViews.pages c.args.pages.now) (g.P.PageViews.view c.args.pages.now) c.args.layout.now c.args.refs.now c.args.no c.in_ok-made.made
    (λ bytes held. c.size-size.ensures.whole c.args.no bytes held ∙ c.requires.page_size) c.in_ok-made.ensures.exact

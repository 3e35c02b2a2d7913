use Rattle.sx_prov.proofs.Standings.{key_by}
use Rattle.sx_prov.proofs.key.page_key.Goals as goal

pub returns-clause-labels : goal.returns-clause-labels
returns-clause-labels g c =
    key_by (g.P.PageViews.pages c.args.pages.now) (g.P.PageViews.view c.args.pages.now) c.args.layout.now c.args.refs.now c.args.no c.standing_of.result c.standing_of.ensures

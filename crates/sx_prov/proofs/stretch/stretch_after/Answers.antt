use Rattle.sx_prov.proofs.Stretching.{next_above, stretch_is}
use Rattle.sx_prov.proofs.stretch.stretch_after.Goals as goal

pub stretch_by-requires-clause-above : goal.stretch_by-requires-clause-above
stretch_by-requires-clause-above g c =
    next_above c.args.lock (g.P.PageViews.view c.args.pages.now) c.args.size c.args.after c.present_after-next.result c.requires.within c.present_after-next.ensures

pub returns : goal.returns
returns g c =
    stretch_is c.args.lock (g.P.PageViews.view c.args.pages.now) c.args.size c.args.after c.present_after-next.result c.stretch_by.result c.present_after-next.ensures c.stretch_by.ensures

use Rattle.sx_moment.proofs.Swept.{unranked_view}
use Rattle.sx_moment.proofs.sweep.SweepPages.page.Goals as goal

pub returns-in_default-clause-view : goal.returns-in_default-clause-view
returns-in_default-clause-view c =
    let s = c.self.inside in
    rw (← c.self.view_is) (unranked_view s.snapshot.case.now s.ranks s.snapshot.moment c.args.no c.self.invariant.ranked c.sources-sources.ensures.gathered s.snapshot.listed c.in_default.ensures.none)

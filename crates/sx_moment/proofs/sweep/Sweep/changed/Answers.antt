use Rattle.std.proofs.Common.{subst}
use Rattle.sx_moment.specs.Sweep.{AreChanged}
use Rattle.sx_moment.proofs.Swept.{changed_are}
use Rattle.sx_moment.proofs.sweep.Sweep.changed.Goals as goal

pub returns-clause-changed : goal.returns-clause-changed
returns-clause-changed c =
    let s = c.self.inside in
    subst AreChanged c.self.view_is
    (changed_are s.snapshot.case.now s.place s.snapshot.moment s.ranks s.origins.items s.changes.settled s.changes.turns s.changes.listed c.self.invariant c.listed.ensures.listed)

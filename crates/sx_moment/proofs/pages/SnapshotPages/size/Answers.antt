use Rattle.std.proofs.Common.{◌≡◌, ◌<◌}
use Rattle.sx_moment.specs.Gathered.{size_at}
use Rattle.sx_moment.proofs.HeldAt.{view_past, view_zero}
use Rattle.sx_moment.proofs.Lie.{views_long}
use Rattle.sx_moment.proofs.pages.SnapshotPages.size.Goals as goal

pub returns-clause-within : goal.returns-clause-within
returns-clause-within c = λ number past.
    let case = c.args.self.now.case.now in
    let size : c.size.result ≡ size_at case c.args.self.now.moment = rw (← c.sources.ensures.same) c.size.ensures in
    let above : size_at case c.args.self.now.moment < number = rw (← size) past in
    view_past case c.args.self.now.moment number above

pub returns-clause-from_one : goal.returns-clause-from_one
returns-clause-from_one c = view_zero c.args.self.now.case.now c.args.self.now.moment

pub returns-clause-whole : goal.returns-clause-whole
returns-clause-whole c = λ number page found.
    views_long c.args.self.now.case.now c.args.self.now.moment number page c.sources.ensures.gathered c.args.self.now.listed found

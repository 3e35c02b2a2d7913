use Rattle.sx_moment.proofs.Lie.{views_lie}
use Rattle.sx_moment.proofs.snapshot.Snapshot.views_lie.Goals as goal

pub returns : goal.returns
returns c number place found =
    views_lie c.args.self.now.case.now c.args.self.now.moment number place c.sources-sources.ensures.gathered c.args.self.now.listed found

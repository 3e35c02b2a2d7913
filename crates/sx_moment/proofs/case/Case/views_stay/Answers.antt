use Rattle.std.proofs.Common.{subst}
use Rattle.sx_moment.specs.Reading.{IsGathered}
use Rattle.sx_moment.proofs.Turned.{stays}
use Rattle.sx_moment.proofs.case.Case.views_stay.Goals as goal

pub returns : goal.returns
returns c number none before now =
    let gathered : IsGathered c.args.self.now = subst IsGathered c.self.view_is c.self.invariant.gathered in
    stays c.args.self.now c.args.k number gathered c.requires.first c.requires.last none before now

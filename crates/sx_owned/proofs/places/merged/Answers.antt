-- The runs before stay, those that are touched become one with the run, and those behind stay.
use Rattle.sx_owned.proofs.Adding.{whole}
use Rattle.sx_owned.proofs.places.merged.Goals as goal

pub returns-clause-same : goal.returns-clause-same
returns-clause-same c =
    whole c.args.runs.now c.split_at.result.1.now c.args.run c.joined_from-touched.result.1 c.first_reached-first.result c.joined_from-touched.result.0
    c.first_reached-first.ensures c.split_at.ensures.back c.joined_from-touched.ensures.joined

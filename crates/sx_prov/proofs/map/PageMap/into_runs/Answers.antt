use Rattle.std.proofs.Common.{◌∙◌, ap}
use Rattle.sx_prov.specs.Runs.{runs_of}
use Rattle.sx_prov.proofs.Maximal.{kept_runs}
use Rattle.sx_prov.proofs.map.PageMap.into_runs.Goals as goal

pub returns : goal.returns
returns c = c.into_iter.ensures.rest ∙ kept_runs c.self.inside.runs.items c.self.invariant.follow ∙ ap runs_of c.self.view_is

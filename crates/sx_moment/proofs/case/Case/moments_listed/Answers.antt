use Rattle.sx_moment.proofs.Moments.{moments_listed}
use Rattle.sx_moment.proofs.case.Case.moments_listed.Goals as goal

pub returns : goal.returns
returns c moment = moments_listed c.args.self.now moment

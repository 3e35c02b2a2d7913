use Rattle.std.proofs.Common.{Ok}
use Rattle.sx_app.specs.Labels.{map_at}
use Rattle.sx_app.specs.Moments.{moment_of}
use Rattle.sx_app.proofs.Missing.{fails_on}
use Rattle.sx_app.proofs.commands.answer_map.Goals as goal

pub returns-in-Err : goal.returns-in-Err
returns-in-Err g c =
    c.finish.ensures _
    (fails_on c.in-Err.refused (moment_of c.args.case.now c.args.at) (λ moment. Ok (map_at c.args.case.now moment)) c.in-Err.ensures.told)

use Rattle.std.proofs.Common.{Ok, subst}
use Rattle.sx_app.specs.Carving.{carve_at, selected}
use Rattle.sx_app.specs.Moments.{moment_of}
use Rattle.sx_app.specs.Owed.{Fails}
use Rattle.sx_app.proofs.Missing.{fails_on}
use Rattle.sx_app.proofs.commands.answer_carve.Goals as goal

pub returns-in-Err : goal.returns-in-Err
returns-in-Err g c =
    let case = c.args.case.now in
    let told = subst (λ at. Fails c.in-Err.refused (moment_of case at)) c.latest-at.ensures c.in-Err.ensures.told in
    c.finish.ensures _ (fails_on c.in-Err.refused _ (λ moment. Ok (carve_at case (selected case c.args.which moment) moment c.args.spill)) told)

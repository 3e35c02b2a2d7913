use Rattle.std.proofs.Common.{Ok, subst}
use Rattle.sx_app.specs.Carving.{carve_at, selected, IsCarving}
use Rattle.sx_app.proofs.Missing.{memory_fails}
use Rattle.sx_app.proofs.commands.carve_moments.Goals as goal

pub carve_prepared-requires-clause-made : goal.carve_prepared-requires-clause-made
carve_prepared-requires-clause-made g c =
    let moments = selected c.args.case.now c.args.which c.args.moment in
    (moments, subst (λ last. IsCarving c.args.case.now moments last c.in-Ok.made) c.requires.moment c.in-Ok.ensures.told)

pub returns-in-Ok : goal.returns-in-Ok
returns-in-Ok g c =
    let moments = selected c.args.case.now c.args.which c.args.moment in
    c.carve_prepared.ensures moments c.args.moment c.requires.moment
    (subst (λ last. IsCarving c.args.case.now moments last c.in-Ok.made) c.requires.moment c.in-Ok.ensures.told)

pub returns-in-Err : goal.returns-in-Err
returns-in-Err g c =
    c.finish.ensures _
    (memory_fails c.in-Err.refused (Ok (carve_at c.args.case.now (selected c.args.case.now c.args.which c.args.moment) c.args.moment c.args.spill)) c.in-Err.ensures.may)

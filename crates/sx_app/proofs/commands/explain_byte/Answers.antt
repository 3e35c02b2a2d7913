use Rattle.sx_app.specs.Labels.{explain_at}
use Rattle.sx_app.proofs.Missing.{memory_fails}
use Rattle.sx_app.proofs.commands.explain_byte.Goals as goal

pub returns-in-Err : goal.returns-in-Err
returns-in-Err g c =
    c.finish-in-Err.ensures _ (memory_fails c.in-Err.refused (explain_at c.args.case.now c.args.moment c.args.place) c.in-Err.ensures.may)

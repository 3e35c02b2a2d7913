use Rattle.sx_app.specs.Moments.{moment_of}
use Rattle.sx_app.specs.Tables.{table_lines}
use Rattle.sx_app.proofs.Missing.{fails_on}
use Rattle.sx_app.proofs.commands.answer_show.Goals as goal

pub returns-in-Err : goal.returns-in-Err
returns-in-Err g c =
    c.finish-in-Err.ensures _
    (fails_on c.in-Err.refused (moment_of c.args.case.now c.args.at) (λ moment. table_lines c.args.case.now moment c.args.table.now) c.in-Err.ensures.told)

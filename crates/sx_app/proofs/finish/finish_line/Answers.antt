-- What a refusal owes over evidence that was opened.
use Rattle.sx_app.proofs.Examined.{answered_refused}
use Rattle.sx_app.proofs.finish.finish_line.Goals as goal

pub returns-in-Err : goal.returns-in-Err
returns-in-Err g c = λ given gives.
    let fails = rw c.in-Err.is at gives in
    let may = rw c.in-Err.is at c.requires in
    answered_refused _ _ _ _ _ _ _ _ _ c.part_named.ensures fails may c.refuse.ensures.answers c.refuse.ensures.prints c.refuse.ensures.ends c.refuse.ensures.cause c.refuse.ensures.later

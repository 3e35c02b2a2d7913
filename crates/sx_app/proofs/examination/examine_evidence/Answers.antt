-- What a question owes follows from whether its evidence was opened, and from what was answered over it.
use Rattle.sx_app.proofs.Examined.{examined_opened, examined_refused}
use Rattle.sx_app.proofs.examination.examine_evidence.Goals as goal

pub returns-in-Ok-clause-examined : goal.returns-in-Ok-clause-examined
returns-in-Ok-clause-examined g c =
    examined_opened _ _ _ _ _ _ _ _ _ _ _ _ _ c.in-Ok.ensures.told c.in-Ok.ensures.used c.in-Ok.ensures.causes.later c.answer_over.ensures

pub returns-in-Err-clause-examined : goal.returns-in-Err-clause-examined
returns-in-Err-clause-examined g c =
    examined_refused _ _ _ _ _ _ _ _ _ _ _ _ _ _ c.part_named.ensures c.in-Err.ensures.told c.in-Err.ensures.causes c.in-Err.ensures.may c.in-Err.ensures.used
    c.refuse.ensures.answers c.refuse.ensures.prints c.refuse.ensures.ends c.refuse.ensures.cause c.refuse.ensures.later

-- The answer is that to what was read from the words; words outside the grammar are answered alike over all files.
use Rattle.sx_app.proofs.Examined.{told_asked, told_usage}
use Rattle.sx_app.proofs.examination.examine.Goals as goal

pub returns-in-Ok-clause-told : goal.returns-in-Ok-clause-told
returns-in-Ok-clause-told g c = told_asked _ _ _ _ _ _ c.in-Ok.ensures c.carry_out.ensures.examined.told

pub returns-in-Err-clause-told : goal.returns-in-Err-clause-told
returns-in-Err-clause-told g c = told_usage _ _ _ _ _ c.in-Err.ensures c.refuse.ensures.answers

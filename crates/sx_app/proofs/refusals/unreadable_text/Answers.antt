use Rattle.std.specs.Prelude.{codes}
use Rattle.std.specs.Fmt.{decimal}
use Rattle.sx_app.proofs.Numbers.{number_last, same_text}
use Rattle.sx_app.proofs.refusals.unreadable_text.Goals as goal

pub returns-in-Commit : goal.returns-in-Commit
returns-in-Commit c =
    λ part. rw c.in-Commit.is (same_text _ _ _ (number_last (codes "refused: page 1 is unreadable at ") (decimal c.in-Commit.k)) c.format.ensures.ok)

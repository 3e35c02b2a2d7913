use Rattle.std.proofs.Common.{append_assoc, append-nil}
use Rattle.sx_app.proofs.refusals.numbered_text.Goals as goal

pub returns-in-NoMoment : goal.returns-in-NoMoment
returns-in-NoMoment c = rw c.in-NoMoment.is (simp (append_assoc, append-nil) c.format.ensures.ok)

pub returns-in-Unreadable : goal.returns-in-Unreadable
returns-in-Unreadable c = rw c.in-Unreadable.is (c.unreadable_text.ensures c.args.part)

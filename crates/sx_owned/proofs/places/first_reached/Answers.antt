-- The last run that is left ends before the place, so each one does.
use Rattle.sx_owned.proofs.Adding.{reached_here}
use Rattle.sx_owned.proofs.places.first_reached.Goals as goal

pub returns-then-last-at : goal.returns-then-last-at
returns-then-last-at c =
    reached_here c.args.at c.args.runs.now c.loop-last.left.now c.in-Some.front.now c.in-Some.last.now c.requires c.in-Some.ensures.cases.0 c.if-last-at.true c.loop-last.invariant

use Rattle.std.proofs.Common.{length}
use Rattle.sx_owned.proofs.Adding.{IsFront}
use Rattle.sx_owned.proofs.places.first_reached.Given as goal

abbrev pub invariant-loop-last : goal.invariant-loop-last
invariant-loop-last l = IsFront l.at l.runs l.left

abbrev pub decreases-loop-last : goal.decreases-loop-last
decreases-loop-last l = length l.left

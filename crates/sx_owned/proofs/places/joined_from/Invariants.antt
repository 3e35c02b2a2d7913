use Rattle.std.proofs.Common.{length}
use Rattle.sx_owned.proofs.Adding.{IsJoined}
use Rattle.sx_owned.proofs.places.joined_from.Given as goal

abbrev pub invariant-loop-next : goal.invariant-loop-next
invariant-loop-next l = IsJoined l.runs l.fn.run l.all l.touched l.left

abbrev pub decreases-loop-next : goal.decreases-loop-next
decreases-loop-next l = length l.left

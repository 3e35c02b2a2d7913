use Rattle.std.proofs.Common.{◌-◌}
use Rattle.sx_generations.proofs.Walks.{Found}
use Rattle.sx_generations.proofs.neighbours.streaks.Given as goal

abbrev pub invariant-loop-at : goal.invariant-loop-at
invariant-loop-at g l = Found (g.N.Neighbours.joined l.row) l.count l.at l.found.items

abbrev pub decreases-loop-at : goal.decreases-loop-at
decreases-loop-at g l = l.count - l.at

use Rattle.sx_follow.specs.Climbing.{HasWay}
use Rattle.sx_follow.proofs.sums.Sums.steps_left.Given as goal

-- a way to the page at which the walk up stands is one to the first
abbrev pub invariant-loop-left : goal.invariant-loop-left
invariant-loop-left l = HasWay l.self l.at → HasWay l.self l.page

abbrev pub decreases-loop-left : goal.decreases-loop-left
decreases-loop-left l = l.left

use Rattle.std.proofs.Common.{◌-◌}
use Rattle.sx_seglist.specs.Links.{len_of, start_of, next_of}
use Rattle.sx_seglist.proofs.Loops.{IsJoining}
use Rattle.sx_seglist.proofs.links.join.Given as goal

abbrev pub invariant-loop-segment : goal.invariant-loop-segment
invariant-loop-segment l = IsJoining l.initial.items l.items l.first l.index

abbrev pub decreases-loop-segment : goal.decreases-loop-segment
decreases-loop-segment l = len_of l.items - start_of l.items (next_of l.items l.index)

use Rattle.std.proofs.Common.{◌-◌}
use Rattle.sx_seglist.specs.Links.{len_of, start_of}
use Rattle.sx_seglist.proofs.Loops.{IsBefore}
use Rattle.sx_seglist.proofs.links.holder_of.Given as goal

abbrev pub invariant-loop-from : goal.invariant-loop-from
invariant-loop-from l = IsBefore l.items l.at l.found

abbrev pub decreases-loop-from : goal.decreases-loop-from
decreases-loop-from l = len_of l.items - start_of l.items l.found

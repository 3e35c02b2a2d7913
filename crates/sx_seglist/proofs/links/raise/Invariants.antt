use Rattle.std.proofs.Common.{◌-◌}
use Rattle.sx_seglist.specs.Links.{len_of, start_of}
use Rattle.sx_seglist.proofs.Loops.{IsRaising}
use Rattle.sx_seglist.proofs.links.raise.Given as goal

abbrev pub invariant-loop-items : goal.invariant-loop-items
invariant-loop-items l = IsRaising l.initial.items l.items (start_of l.initial.items l.first) l.index l.end l.label

abbrev pub decreases-loop-items : goal.decreases-loop-items
decreases-loop-items l = len_of l.items - start_of l.items l.index

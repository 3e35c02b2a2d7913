use Rattle.std.proofs.Common.{◌-◌, length}
use Rattle.std.specs.Ordering.{nat_cmp}
use Rattle.std.specs.BTreeMap.{get}
use Rattle.sx_spill.specs.Marks.{IsOut}
use Rattle.sx_spill.specs.Unused.{unused_by}
use Rattle.sx_spill.proofs.trail.go_out.Given as goal

abbrev pub invariant-loop-link : goal.invariant-loop-link
invariant-loop-link l = IsOut (unused_by l.pages).view l.link l.at l.trail.items (get nat_cmp l.known)

abbrev pub decreases-loop-link : goal.decreases-loop-link
decreases-loop-link l = l._most - length l.trail.items

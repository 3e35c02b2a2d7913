use Rattle.std.proofs.Common.{ℕ, length}
use Rattle.std.specs.Ordering.{nat_cmp}
use Rattle.std.specs.BTreeMap.{get}
use Rattle.sx_spill.specs.Marks.{IsBack}
use Rattle.sx_spill.specs.Unused.{unused_by}
use Rattle.sx_spill.proofs.trail.come_back.Given as goal

abbrev pub invariant-loop-number : goal.invariant-loop-number
invariant-loop-number l = (at : ℕ) × IsBack (unused_by l.pages).view l.link at l.len l.trail.items (get nat_cmp l.known)

abbrev pub decreases-loop-number : goal.decreases-loop-number
decreases-loop-number l = length l.trail.items

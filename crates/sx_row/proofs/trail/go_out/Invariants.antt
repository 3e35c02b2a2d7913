use Rattle.std.proofs.Common.{◌-◌, length}
use Rattle.std.specs.Ordering.{nat_cmp}
use Rattle.std.specs.BTreeMap.{get}
use Rattle.sx_base.specs.Held.{held_pages}
use Rattle.sx_row.proofs.Trails.{IsGoing}
use Rattle.sx_row.proofs.trail.go_out.Given as goal

abbrev pub invariant-loop-len : goal.invariant-loop-len
invariant-loop-len g l = IsGoing (g.P.PageViews.view l.pages) l.most l.link l.at l.trail.items (get nat_cmp l.known)

abbrev pub decreases-loop-len : goal.decreases-loop-len
decreases-loop-len g l = length (held_pages (g.P.PageViews.pages l.pages) (g.P.PageViews.view l.pages)) - length l.trail.items

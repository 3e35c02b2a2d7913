use Rattle.std.proofs.Common.{◌≡◌, ℕ, length}
use Rattle.std.specs.Ordering.{nat_cmp}
use Rattle.std.specs.BTreeMap.{get}
use Rattle.sx_overflow.specs.Chains.{chain_of, IsTrail}
use Rattle.sx_row.specs.Marks.{IsHalf}
use Rattle.sx_row.proofs.trail.come_back.Given as goal

abbrev pub invariant-loop-at : goal.invariant-loop-at
invariant-loop-at g l = record {
  out : (to : ℕ) × IsTrail (g.P.PageViews.view l._pages) l.link l.trail.items to × (l.len ≡ length (chain_of (g.P.PageViews.view l._pages) to l.most));
  half : IsHalf (g.P.PageViews.view l._pages) l.most l.trail.items (get nat_cmp l.known);
}

abbrev pub decreases-loop-at : goal.decreases-loop-at
decreases-loop-at g l = length l.trail.items
